use Rattle.name_classes.proofs.Common.{take, AreUseTables}
use Rattle.name_classes.proofs.tables.use_tables.Given as goal

abbrev pub invariant-loop-ext : goal.invariant-loop-ext
invariant-loop-ext l = AreUseTables (take l.ext-index l.exts) l.tables.items
