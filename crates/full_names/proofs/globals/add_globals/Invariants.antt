use Rattle.full_names.proofs.Common.{take}
use Rattle.full_names.proofs.GlobalLaws.{AreGlobalsAdded}
use Rattle.full_names.proofs.globals.add_globals.Given as goal

abbrev pub invariant-loop-name : goal.invariant-loop-name
invariant-loop-name l = AreGlobalsAdded (take l.name-index l.names) l.element l.fn.found.items l.found.items
