-- What most files of proofs name of what stands below, and of the definitions of this crate.
pub use Rattle.std.proofs.Common.{◌≡◌, inl, inr, ℕ, ◌<◌, false, List, [], ◌∷◌, ◌++◌, get_or, map, refl, sym, ◌∙◌, ap, subst, ◌≢◌, Bool, true, length}
pub use Rattle.std.proofs.Common.{cond, ◌⊎◌, ◌≤ℤ◌, ◌<ℤ◌, arith, ◌-◌, take, drop, ◌+◌}
pub use Rattle.std.specs.Prelude.{AllPairs, filter, All}
pub use Rattle.std.specs.List.{range_with_len}
pub use Rattle.std.proofs.lemmas.List.Kept.{AllPairs-filter}
pub use Rattle.std.proofs.lemmas.Int.{ints}
pub use Rattle.std.proofs.lemmas.List.{map-append, take_more}
pub use Rattle.geo_core.specs.FiniteSets.Lists.{In}
pub use Rattle.geo_core.proofs.FiniteSets.Members.{In-append_left, In-push, In-push_cases, In-filter, In-filter_source, In-filter_passes}
pub use Rattle.geo_core.proofs.FiniteSets.Pairs.{Pairwise, AllPairs-from_Pairwise, Pairwise-from_AllPairs, AllPairs-push}
pub use Rattle.geo_core.specs.declared.squares.Square.{Square}
pub use Rattle.geo_core.specs.declared.squares.Rect.{Rect}
pub use Rattle.geo_core.specs.Areas.{common_rect, AreDisjoint, joined_rect, LiesWithin}
pub use Rattle.geo_core.specs.Covering.{Covers, IsProper, CoversAt}
pub use Rattle.geo_core.proofs.CoveringLaws.{IsProper-has_square, covers_first, covers_second, covers_both, has_square-IsProper, covers_joined_left}
pub use Rattle.geo_core.proofs.CoveringLaws.{covers_joined_right, covers_is_proper}
pub use Rattle.rect_contacts.specs.Rects.{rect_at}
pub use Rattle.geo_core.proofs.CornerLaws.{corner_covers}
pub use Rattle.rect_overlays.specs.declared.stacks.Stack.{Stack}
pub use Rattle.rect_overlays.specs.steps.Regions.{Region, meets_at, IsRegion, IsWholeOf, Holds, meets, IsGathered, AddsPart, AllMeet, AllGoRound}
pub use Rattle.rect_overlays.specs.steps.Regions.{goes_round_at}
pub use Rattle.rect_overlays.specs.steps.Singles.{AreApart, AddsSingles}
pub use Rattle.rect_overlays.specs.steps.Splits.{IsSplit, CutsInTwo, IsMade, AddsHalves, IsSplitWith}
pub use Rattle.rect_overlays.specs.declared.regions.Part.{Part}
pub use Rattle.rect_overlays.specs.declared.regions.Regions.{Regions}
pub use Rattle.rect_overlays.specs.declared.cuts.Cut.{Cut}
pub use Rattle.rect_overlays.specs.declared.cuts.Cut.TheVariants.{Column, Row}
pub use Rattle.rect_overlays.specs.steps.Cuts.{low_half, high_half, IsInside}
pub use Rattle.rect_overlays.specs.declared.regions.Span.{Span}
