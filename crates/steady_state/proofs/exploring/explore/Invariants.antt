use Rattle.steady_state.proofs.Common.{◌<◌, ◌≤◌, ◌-◌, ℕ, List, slice_index, Left, Right, IsInside, IsReached, IsStorage, AreGatheredAt, AddsMarks}
use Rattle.steady_state.proofs.Common.{AreMarked, AreReached, IsCovered, network_in}
use Rattle.steady_state.proofs.exploring.explore.Given as goal

abbrev pub invariant-nodes : goal.invariant-nodes
invariant-nodes l = record {
  marks : AreMarked (network_in l.net) l.marks;
  adds : AddsMarks l.fn.marks l.marks;
  begun : l.scanned ≤ l.marks.count;
  reached : (seeds : List ℕ) → AreReached (network_in l.net) l.state seeds l.fn.marks.inside → IsReached (network_in l.net) l.state seeds l.seed →
      AreReached (network_in l.net) l.state seeds l.marks.inside;
  marked : IsStorage (network_in l.net) l.seed → IsInside l.marks.inside l.seed;
  left : (i : ℕ) → l.fn.marks.count ≤ i → i < l.scanned → IsCovered (network_in l.net) l.state Left l.marks.inside (slice_index l.marks.order i);
  right : (i : ℕ) → l.fn.marks.count ≤ i → i < l.scanned → IsCovered (network_in l.net) l.state Right l.marks.inside (slice_index l.marks.order i);
  gathered : (i : ℕ) → l.fn.marks.count ≤ i → i < l.scanned → AreGatheredAt (network_in l.net) l.state (slice_index l.marks.order i) l.definite l.one l.zero;
}

abbrev pub decreases-nodes : goal.decreases-nodes
decreases-nodes l = l.net.nodes - l.scanned
