use Rattle.steady_state.proofs.Common.{◌<◌, ℕ, List, slice_index, slice_index_or, Switch, IsReached, AreGathering, AreMore, BringAtMost, AreMarked}
use Rattle.steady_state.proofs.Common.{AddsMarks, AreReached, LeadsInside, network_in}
use Rattle.steady_state.proofs.beginning.look_all.Given as goal

abbrev pub invariant-switches : goal.invariant-switches
invariant-switches l = record {
  gathering : AreGathering (network_in l.net) l.state l.node l.begun;
  more : AreMore l.fn.before l.begun;
  marks : AreMarked (network_in l.net) l.marks;
  adds : AddsMarks l.fn.marks l.marks;
  reached : (seeds : List ℕ) → AreReached (network_in l.net) l.state seeds l.fn.marks.inside → IsReached (network_in l.net) l.state seeds l.node →
      AreReached (network_in l.net) l.state seeds l.marks.inside;
  brought : (i : ℕ) → i < l.place-index → (d : Switch) → BringAtMost (network_in l.net) l.state l.side
      (slice_index_or l.net.switches.now (slice_index l.places i) d) l.begun;
  led : (i : ℕ) → i < l.place-index → (d : Switch) → LeadsInside (network_in l.net) l.state l.side l.marks.inside
      (slice_index_or l.net.switches.now (slice_index l.places i) d);
}
