use Rattle.full_names.proofs.OwnNameLaws.{AreNamesBelow}
use Rattle.full_names.proofs.own_names.own_names.Given as goal

abbrev pub invariant-loop-number : goal.invariant-loop-number
invariant-loop-number l = AreNamesBelow l.global l.ext l.number l.names.items
