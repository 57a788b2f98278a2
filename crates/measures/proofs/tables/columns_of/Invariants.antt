use Rattle.measures.proofs.Common.{take, AreColumns}
use Rattle.measures.proofs.tables.columns_of.Given as goal

abbrev pub invariant-loop-class : goal.invariant-loop-class
invariant-loop-class l = AreColumns (take l.class-index l.classes) l.tiles l.contacts l.count l.columns.items
