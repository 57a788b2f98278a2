-- What most files of proofs name of what stands below, and of the definitions of this crate.
pub use Rattle.std.proofs.Common.{◌≡◌, false, List, get_or, ◌⊎◌, inl, inr, ◌<◌, length, take, drop, ℤ, ◌≤ℤ◌, ◌<ℤ◌, Bool, true, cond, [], ◌∷◌, ◌++◌}
pub use Rattle.std.proofs.Common.{Box, Global, Some, None, refl, sym, ◌∙◌, ap, subst, arith, to_z, of_z, map, ◌+ℤ◌, pos, ◌-ℤ◌, rules}
pub use Rattle.std.specs.Prelude.{IsSorted, ◌&&◌, int_le, int_lt, AllPairs, IsPermutation}
pub use Rattle.std.specs.Cmp.{IsTotalOrder}
pub use Rattle.std.specs.Ordering.{is_lt, int_cmp, ordering_then}
pub use Rattle.std.proofs.lemmas.Cmp.{int_cmp_total, on_total, then_total}
pub use Rattle.std.specs.Int.{int_max, int_min, w64}
pub use Rattle.std.specs.Int.RustNames.{FitsSigned}
pub use Rattle.std.proofs.lemmas.Bool.{cases_Bool, false≢true}
pub use Rattle.std.proofs.lemmas.Int.{ints, clamps, by_lt_z, to_z-of_z}
pub use Rattle.std.proofs.lemmas.List.{take_more}
pub use Rattle.std.specs.BTreeMap.{get}
pub use Rattle.geo_core.proofs.FiniteSets.Orders.{int_then-not_less, IsSorted-pairs}
pub use Rattle.geo_core.proofs.FiniteSets.Pairs.{Pairwise}
pub use Rattle.geo_core.specs.FiniteSets.Lists.{In}
pub use Rattle.geo_core.proofs.FiniteSets.Members.{In-append_left, In-push, In-push_cases, In-index, In-get_or, In-map}
pub use Rattle.geo_core.specs.declared.squares.Rect.{Rect}
pub use Rattle.geo_core.specs.declared.squares.Square.{Square}
pub use Rattle.geo_core.specs.Strips.{IsRun, IsStrip, IsStrips, IsInUnion}
pub use Rattle.geo_strips.specs.declared.bars.Bar.{Bar}
pub use Rattle.geo_strips.specs.Bars.{bar_cmp, joined_from, joined, strip_of, rect_of, AreStripsOf}
pub use Rattle.geo_strips.specs.declared.coverage.Gap.{Gap}
pub use Rattle.geo_strips.specs.Coverage.{until, least_of, most_of, IsTopped, IsCut, IsCutAt, end_before}
pub use Rattle.geo_strips.specs.declared.row_events.Event.{Event}
pub use Rattle.geo_strips.specs.steps.RowEvents.{end_of, AreEvents, sides_of}
pub use Rattle.geo_strips.specs.declared.row_runs.Run.{Run}
pub use Rattle.geo_strips.specs.RowRuns.{Row, IsInRow, AreRuns, bar_of, IsWritten, Changes, IsLastRun, without, IsCovered, IsUncovered}
pub use Rattle.geo_strips.specs.steps.Sweeping.{HaveSquare, AreRunBars, row_of}
