use Rattle.plain_records.proofs.Common.{suc, ◌≤◌, MOST_MERGES}
use Rattle.plain_records.proofs.rows.may_have_too_many.Given as goal

abbrev pub invariant-loop-cell : goal.invariant-loop-cell
invariant-loop-cell l = l.count ≤ suc MOST_MERGES
