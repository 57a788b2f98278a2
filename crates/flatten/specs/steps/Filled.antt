-- Nodes with their sums.
use Rattle.std.specs.Prelude.{◌≡◌, ℕ, Some, List, length, slice_get}
use Rattle.ext_model.specs.declared.records.NodeRec.{NodeRec}
use Rattle.flatten.specs.declared.sums.NodeSum.{NodeSum}

-- the node with these sums
abbrev pub with_sum : NodeRec → NodeSum → NodeRec
with_sum node sum = record node { cap = sum.cap; measures = sum.measures.items }

-- The new nodes are the old ones with these sums.
pub record AreFilled (nodes : List NodeRec) (sums : List NodeSum) (new : List NodeRec) : Type 0 where
  pub long : length new ≡ length nodes
  pub each : (number : ℕ) (node : NodeRec) (sum : NodeSum) → slice_get nodes number ≡ Some node → slice_get sums number ≡ Some sum
      → slice_get new number ≡ Some (with_sum node sum)
