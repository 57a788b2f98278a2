use Rattle.std.proofs.Common.{◌≡◌, ◌+◌}
use Rattle.geometry_tests.proofs.step_tests.sum_of_ten.Given as goal

abbrev pub invariant-loop-number : goal.invariant-loop-number
invariant-loop-number g l = l.steps ≡ l.fn.steps + l.number
