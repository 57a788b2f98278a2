use Rattle.steady_state.proofs.Common.{◌<◌, ℕ, List, slice_index, IsInside, AreReadyFor, AreSteady, KeepsOthers, AreMarked, AreReached, network_in}
use Rattle.steady_state.specs.Marked.{AreClosed}
use Rattle.steady_state.proofs.stepping.step_vicinities.Given as goal

abbrev pub invariant-seeds : goal.invariant-seeds
invariant-seeds l = record {
  marks : AreMarked (network_in l.net) l.marks;
  seeded : (i : ℕ) → i < l.place → IsInside l.marks.inside (slice_index l.seeds i);
  reached : (roots : List ℕ) → AreReached (network_in l.net) l.state roots l.fn.marks.inside → AreReached (network_in l.net) l.state roots l.marks.inside;
  closed : AreClosed (network_in l.net) l.state l.marks.inside;
  steady : AreSteady (network_in l.net) l.state l.marks.inside l.next;
  kept : KeepsOthers l.marks.inside l.fn.next l.next;
  strengths : AreReadyFor l.net.nodes l.strengths;
}
