use Rattle.steady_state.proofs.Common.{◌≡◌, ◌<◌, ℕ, length, slice_index, IsInside, IsAmong}
use Rattle.steady_state.proofs.finding.enqueue.Given as goal

abbrev pub invariant-nodes : goal.invariant-nodes
invariant-nodes l = record {
  fits : length l.waiting.inside ≡ length l.best;
  inner : (v : ℕ) → IsInside l.waiting.inside v → IsAmong l.order (length l.order) v;
  waits : (i : ℕ) → i < l.node-index → 1 < slice_index l.best (slice_index l.order i) → IsInside l.waiting.inside (slice_index l.order i);
}
