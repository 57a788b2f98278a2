use Rattle.plain_records.proofs.Common.{take, AreExpanded}
use Rattle.plain_records.proofs.expansion.expanded.Given as goal

-- the plain forms of those passed stand in their places
abbrev pub invariant-loop-cell : goal.invariant-loop-cell
invariant-loop-cell l = AreExpanded l.merged l.exts (take l.cell-index l.order) l.records.items
