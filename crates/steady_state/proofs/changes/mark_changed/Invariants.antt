use Rattle.steady_state.proofs.Common.{◌<◌, ℕ, slice_index, IsStorage, IsInside, AreMarked, IsGated, network_in}
use Rattle.steady_state.proofs.changes.mark_changed.Given as goal

abbrev pub invariant-changed : goal.invariant-changed
invariant-changed l = record {
  marks : AreMarked (network_in l.net) l.marks;
  changed : (i : ℕ) → i < l.node-index → IsStorage (network_in l.net) (slice_index l.changed i) → IsInside l.marks.inside (slice_index l.changed i);
  gated : (i : ℕ) → i < l.node-index → IsGated (network_in l.net) l.marks.inside (slice_index l.changed i);
}
