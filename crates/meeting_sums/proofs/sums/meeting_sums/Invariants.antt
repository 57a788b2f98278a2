use Rattle.meeting_sums.proofs.Common.{◌≡◌, ℕ, ◌<◌, length, get_or}
use Rattle.meeting_sums.specs.Sums.{IsSumOf}
use Rattle.meeting_sums.proofs.ColumnLaws.{no_sum}
use Rattle.meeting_sums.proofs.sums.meeting_sums.Given as goal

abbrev pub invariant-loop-group : goal.invariant-loop-group
invariant-loop-group l = record {
  so_many : length l.sums.items ≡ l.group;
  each : (k : ℕ) → k < l.group → IsSumOf l.tech.classes l.columns.items k (get_or l.sums.items k no_sum);
}
