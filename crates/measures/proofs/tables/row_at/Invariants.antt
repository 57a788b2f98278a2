use Rattle.measures.proofs.Common.{◌≡◌, take, pairs_at}
use Rattle.measures.proofs.tables.row_at.Given as goal

abbrev pub invariant-loop-column : goal.invariant-loop-column
invariant-loop-column l = l.row.items ≡ pairs_at l.region (take l.column-index l.columns)
