use Rattle.steady_state.proofs.Common.{◌≡◌, ◌<◌, ◌⊎◌, ℕ, length, slice_index, IsAmong, IsInside, AreMadeX, AddsMarks}
use Rattle.steady_state.proofs.forcing.force.Given as goal

abbrev pub invariant-nodes : goal.invariant-nodes
invariant-nodes l = record {
  fits : length l.forced.inside ≡ length l.fn.forced.inside;
  adds : AddsMarks l.fn.forced l.forced;
  only : (v : ℕ) → IsInside l.forced.inside v → IsInside l.fn.forced.inside v ⊎ IsAmong l.nodes l.node-index v;
  all : (i : ℕ) → i < l.node-index → IsInside l.forced.inside (slice_index l.nodes i);
  state : AreMadeX l.nodes l.node-index l.fn.state l.state;
  next : AreMadeX l.nodes l.node-index l.fn.next l.next;
}
