use Rattle.std.proofs.Common.{◌≡◌, length}
use Rattle.geometry_tests.proofs.class_tests.joined_to_a_branch.Given as goal

abbrev pub invariant-loop-number : goal.invariant-loop-number
invariant-loop-number l = length l.partition ≡ l.size
