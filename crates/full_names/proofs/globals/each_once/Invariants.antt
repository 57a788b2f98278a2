use Rattle.full_names.proofs.GlobalLaws.{AreOnceBelow}
use Rattle.full_names.proofs.globals.each_once.Given as goal

abbrev pub invariant-loop-name : goal.invariant-loop-name
invariant-loop-name l = AreOnceBelow l.found l.name-index l.names.items
