use Rattle.steady_state.proofs.Common.{◌≢◌, ◌<◌, ◌≤◌, ℕ, length, slice_index, state_of, IsAmong}
use Rattle.steady_state.proofs.changes.changes.Given as goal

abbrev pub invariant-loop-node : goal.invariant-loop-node
invariant-loop-node l = record {
  few : l.count ≤ l.node-index;
  found : (i : ℕ) → i < l.node-index → state_of l.state (slice_index l.order i) ≢ state_of l.next (slice_index l.order i) →
      IsAmong l.changed l.count (slice_index l.order i);
  differ : (i : ℕ) → i < l.count → state_of l.state (slice_index l.changed i) ≢ state_of l.next (slice_index l.changed i);
  below : (i : ℕ) → i < l.count → slice_index l.changed i < length l.state;
}
