-- What most files of proofs name of what stands below, and of the definitions of this crate.
pub use Rattle.std.proofs.Common.{◌≡◌, inl, inr, ℕ, ◌+◌, ◌<◌, ℤ, pos, ◌+ℤ◌, ◌≤ℤ◌, ◌<ℤ◌, Bool, true, false, cond, List, length, take, drop, get_or}
pub use Rattle.std.proofs.Common.{Box, Global, Some, refl, sym, ◌∙◌, ap, subst, arith, zero, suc, [], ◌∷◌, filter, map, ◌++◌, rules, w64, to_z, of_z}
pub use Rattle.std.specs.Prelude.{◌&&◌, int_le, int_lt, AllPairs, All}
pub use Rattle.std.specs.Int.{int_max, int_min}
pub use Rattle.std.proofs.lemmas.Bool.{cases_Bool}
pub use Rattle.std.proofs.lemmas.Int.{ints, by_lt_z, to_z-of_z}
pub use Rattle.std.specs.List.{flat_map}
pub use Rattle.std.specs.Ordering.{int_cmp}
pub use Rattle.std.proofs.lemmas.Option.{slice_get_within, get_or_from_slice_get}
pub use Rattle.finite_sets.specs.Lists.{In}
pub use Rattle.finite_sets.proofs.Members.{In-index, In-get_or}
pub use Rattle.geo_strips.specs.Coverage.{begins_before, ends_after}
pub use Rattle.finite_sets.specs.Total.{sum_on, one_if}
pub use Rattle.geo_core.specs.declared.squares.Square.{Square}
pub use Rattle.geo_core.specs.declared.squares.Rect.{Rect}
pub use Rattle.geo_core.specs.Covering.{Covers, is_covered, CoversAt, IsInTwo}
pub use Rattle.geo_core.specs.Areas.{has_square, widened, LiesWithin}
pub use Rattle.geo_strips.specs.steps.Sweeping.{AreRunBars}
pub use Rattle.geo_strips.proofs.CoverageLaws.{stored_max, stored_min}
pub use Rattle.interact.specs.declared.counts.Counts.{Counts, Even}
pub use Rattle.interact.specs.declared.counts.Fork.{Fork}
pub use Rattle.interact.specs.steps.Counts.{bounds_of, shifted, IsTold, IsCut, IsAdded, forks}
pub use Rattle.interact.specs.declared.edges.Edge.{Edge}
pub use Rattle.interact.specs.steps.Edges.{begin_of, edges_of, IsOf64Bits, AreEdges, sides_of, gain_of}
pub use Rattle.interact.specs.NearBoxes.{IsShared}
pub use Rattle.interact.specs.declared.sweep.Sweep.{Sweep}
