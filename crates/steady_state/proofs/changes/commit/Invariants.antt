use Rattle.steady_state.proofs.Common.{◌≡◌, ◌≢◌, ◌<◌, ◌≤◌, ℕ, length, slice_index, state_of}
use Rattle.steady_state.proofs.changes.commit.Given as goal

abbrev pub invariant-loop-node : goal.invariant-loop-node
invariant-loop-node l = (v : ℕ) → state_of l.state v ≢ state_of l.next v → (i : ℕ) × (l.node-index ≤ i) × (i < length l.changed) × (slice_index l.changed i ≡ v)
