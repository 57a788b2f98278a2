use Rattle.steady_state.proofs.Common.{◌<◌, ℕ, slice_index, AreMarked, IsTouched, network_in}
use Rattle.steady_state.proofs.changes.mark_all_touched.Given as goal

abbrev pub invariant-nodes : goal.invariant-nodes
invariant-nodes l = record {
  marks : AreMarked (network_in l.net) l.marks;
  touched : (i : ℕ) → i < l.node-index → IsTouched (network_in l.net) l.marks.inside (slice_index l.nodes i);
}
