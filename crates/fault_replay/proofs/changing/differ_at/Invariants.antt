use Rattle.fault_replay.proofs.Common.{◌≡◌, ℕ, ◌<◌, slice_index, state_of}
use Rattle.fault_replay.proofs.changing.differ_at.Given as goal

abbrev pub invariant-loop-node : goal.invariant-loop-node
invariant-loop-node l = (i : ℕ) → i < l.node-index → state_of l.one (slice_index l.nodes i) ≡ state_of l.other (slice_index l.nodes i)
