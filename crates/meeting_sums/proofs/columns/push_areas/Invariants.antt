use Rattle.meeting_sums.proofs.Common.{range_with_len, In, sum_on, class_of, AddAmounts}
use Rattle.meeting_sums.specs.steps.Counts.{area_counted}
use Rattle.meeting_sums.proofs.columns.push_areas.Given as goal

abbrev pub invariant-loop-place : goal.invariant-loop-place
invariant-loop-place l =
    AddAmounts (λ key. In key l.groups) (λ key. sum_on (area_counted (class_of l.class).contains l.stacks l.groups key) (range_with_len 0 l.place))
    l.fn.amounts.items l.amounts.items
