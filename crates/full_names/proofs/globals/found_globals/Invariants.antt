use Rattle.full_names.proofs.Common.{take, AreFound}
use Rattle.full_names.proofs.globals.found_globals.Given as goal

abbrev pub invariant-loop-first : goal.invariant-loop-first
invariant-loop-first l = AreFound l.tree.elements l.records (take l.first-index l.firsts) l.found.items
