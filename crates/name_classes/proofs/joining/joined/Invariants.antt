use Rattle.name_classes.proofs.Common.{◌≡◌, length, AreJoined}
use Rattle.name_classes.proofs.joining.joined.Given as goal

abbrev pub invariant-loop-number : goal.invariant-loop-number
invariant-loop-number l = record { long : length l.partition ≡ l.names.count; joined : AreJoined l.names l.all l.number l.partition }
