use Rattle.steady_state.proofs.Common.{◌<◌, ℕ, IsStorage, IsInside, AreMarked, network_in}
use Rattle.steady_state.proofs.marking.mark_all.Given as goal

abbrev pub invariant-every : goal.invariant-every
invariant-every l = record {
  marks : AreMarked (network_in l.net) l.marks;
  every : (v : ℕ) → v < l.node → IsStorage (network_in l.net) v → IsInside l.marks.inside v;
}
