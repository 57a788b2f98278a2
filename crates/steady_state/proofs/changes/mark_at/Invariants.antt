use Rattle.steady_state.proofs.Common.{◌<◌, ℕ, slice_index, slice_index_or, Switch, IsInside, AreMarked, EndsInside, network_in}
use Rattle.steady_state.proofs.changes.mark_at.Given as goal

abbrev pub invariant-switches : goal.invariant-switches
invariant-switches l = record {
  marks : AreMarked (network_in l.net) l.marks;
  grown : (v : ℕ) → IsInside l.fn.marks.inside v → IsInside l.marks.inside v;
  ends : (i : ℕ) → i < l.place-index → (d : Switch) → EndsInside (network_in l.net) l.marks.inside
      (slice_index_or l.net.switches.now (slice_index l.places i) d);
}
