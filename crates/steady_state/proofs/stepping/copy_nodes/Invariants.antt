use Rattle.steady_state.proofs.Common.{◌≡◌, ◌<◌, ℕ, slice_index}
use Rattle.steady_state.proofs.stepping.copy_nodes.Given as goal

abbrev pub invariant-nodes : goal.invariant-nodes
invariant-nodes l = (i : ℕ) → i < l.place → slice_index l.list i ≡ slice_index l.nodes i
