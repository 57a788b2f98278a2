use Rattle.steady_state.proofs.Common.{◌<◌, ℕ, slice_index_or, IsStorage, IsInside, AreMarked, AreReached, network_in}
use Rattle.steady_state.specs.Marked.{States}
use Rattle.steady_state.proofs.marking.mark_seeds.Given as goal

abbrev pub invariant-seeds : goal.invariant-seeds
invariant-seeds l = record {
  marks : AreMarked (network_in l.net) l.marks;
  reached : (s : States) → AreReached (network_in l.net) s l.seeds l.marks.inside;
  seeded : (k d : ℕ) → k < l.seed-index → IsStorage (network_in l.net) (slice_index_or l.seeds k d) → IsInside l.marks.inside (slice_index_or l.seeds k d);
}
