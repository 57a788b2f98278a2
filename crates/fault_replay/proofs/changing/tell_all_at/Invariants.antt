use Rattle.fault_replay.proofs.Common.{◌≡◌, ℕ, ◌<◌, length, slice_index, IsInside, IsTold}
use Rattle.fault_replay.proofs.changing.tell_all_at.Given as goal

abbrev pub invariant-loop-node : goal.invariant-loop-node
invariant-loop-node l = record {
  fits : length l.told.inside ≡ length l.fn.told.inside;
  grown : (v : ℕ) → IsInside l.fn.told.inside v → IsInside l.told.inside v;
  all : (i : ℕ) → i < l.node-index → IsTold l.one l.other l.told.inside (slice_index l.nodes i);
}
