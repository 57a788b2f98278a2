use Rattle.flatten.proofs.Common.{◌≡◌, ℕ, ◌<◌, ◌≤◌, length, Some, slice_get, NodeRec, NodeSum}
use Rattle.std.proofs.Common.{vec_len}
use Rattle.flatten.specs.steps.Filled.{with_sum}
use Rattle.flatten.proofs.filling.with_sums.Given as goal

abbrev pub invariant-loop-sum : goal.invariant-loop-sum
invariant-loop-sum l = record {
  long : length l.nodes.items ≡ length l.fn.nodes.items;
  few : length l.sums.items ≤ length l.fn.sums.items;
  left : (k : ℕ) (sum : NodeSum) → slice_get l.sums.items k ≡ Some sum → slice_get l.fn.sums.items k ≡ Some sum;
  rest : (k : ℕ) → k < length l.sums.items → slice_get l.nodes.items k ≡ slice_get l.fn.nodes.items k;
  done : (k : ℕ) (node : NodeRec) (sum : NodeSum) → length l.sums.items ≤ k → slice_get l.fn.nodes.items k ≡ Some node
      → slice_get l.fn.sums.items k ≡ Some sum → slice_get l.nodes.items k ≡ Some (with_sum node sum);
}

abbrev pub decreases-loop-sum : goal.decreases-loop-sum
decreases-loop-sum l = vec_len l.sums
