use Rattle.meeting_sums.proofs.Common.{◌≡◌, take, pairs_at}
use Rattle.meeting_sums.proofs.sums.measures_of.Given as goal

abbrev pub invariant-loop-column : goal.invariant-loop-column
invariant-loop-column l = l.measures.items ≡ pairs_at l.group (take l.column-index l.columns)
