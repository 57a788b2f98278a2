use Rattle.flatten.proofs.Common.{◌≡◌, ℕ, pos, length, Some, slice_get, NodeSum}
use Rattle.std.proofs.Math.ListN.{replicate}
use Rattle.flatten.proofs.sums.zero_sums.Given as goal

abbrev pub invariant-loop-node : goal.invariant-loop-node
invariant-loop-node l = record {
  long : length l.sums.items ≡ l._node;
  none : (node : ℕ) (sum : NodeSum) → slice_get l.sums.items node ≡ Some sum
      → (sum.cap ≡ pos 0) × (sum.measures.items ≡ replicate l.classes (pos 0, pos 0));
}
