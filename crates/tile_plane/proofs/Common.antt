-- What most files of proofs name of what stands below, and of the definitions of this crate.
pub use Rattle.std.proofs.Common.{◌≡◌, ◌⊎◌, inl, inr, ℕ, ℤ, pos, ◌+ℤ◌, ◌-ℤ◌, ◌≤ℤ◌, ◌<ℤ◌, refl, sym, ◌∙◌, subst, arith, [], ◌∷◌, ap, Bool, true}
pub use Rattle.std.proofs.Common.{false, if◌then◌else◌, List, Option, ◌<◌, Some, None, ◌++◌, ◌≢◌, ◌+◌, ◌≤◌, length, map, take, filter, get_or}
pub use Rattle.std.proofs.Common.{true≢false, cond, FitsSigned, w64, to_z, of_z, rules, ◌-◌, ◌^◌}
pub use Rattle.std.proofs.lemmas.Int.{ints, by_lt_z, clamps, to_z-of_z}
pub use Rattle.std.specs.Ordering.{nat_cmp, eq_by_cmp}
pub use Rattle.std.proofs.lemmas.Bool.{cases_eq}
pub use Rattle.std.specs.Prelude.{All, AllPairs, IsPermutation, IfSome, MatchOption}
pub use Rattle.std.specs.Option.{unwrap_or}
pub use Rattle.std.proofs.lemmas.List.{append-nil, map-append, take_more, take_all, get_or-take, length-take-le, get_or_default}
pub use Rattle.std.specs.List.Sorted.{IsSortedByKey}
pub use Rattle.std.proofs.lemmas.List.Sorted.{IsPermutation-sym, answers_always}
pub use Rattle.geo_core.specs.declared.squares.Square.{Square}
pub use Rattle.geo_core.specs.declared.squares.Rect.{Rect}
pub use Rattle.geo_core.specs.declared.squares.Piece.{Piece}
pub use Rattle.geo_core.specs.Areas.{LiesWithin, IsNear, corner_of, AreDisjoint, joined_rect}
pub use Rattle.geo_core.specs.Covering.{Covers, IsProper, is_covered}
pub use Rattle.geo_core.specs.Planes.{plane_range, AreSet, AreSame, HasValue, AreTilesIn, IsBox}
pub use Rattle.geo_core.specs.Strips.{IsRun, IsStrip, IsStrips}
pub use Rattle.geo_core.specs.FiniteSets.Range.{extent}
pub use Rattle.geo_core.specs.FiniteSets.Lists.{In, Lists, Distinct}
pub use Rattle.geo_core.proofs.FiniteSets.Members.{In-append_left, In-push, In-push_cases, In-append_right, In-append_cases, In-get_or, In-index}
pub use Rattle.geo_core.proofs.FiniteSets.Pairs.{AllPairs-permutation}
pub use Rattle.geo_core.proofs.FiniteSets.Searches.{All-from_In}
pub use Rattle.geo_core.proofs.CornerLaws.{corner_key, pair_cmp, sorted_by_corner}
pub use Rattle.tile_plane.specs.Tiles.{Tiles, tile_at, Owns, IsPartition, value_at, IsTaken, HasStitches, square_above, square_right, square_below}
pub use Rattle.tile_plane.specs.Tiles.{square_left, tile_if, value_among, no_tile, IsPut, Leads, AreProper, IsAfter, IsNextTile}
pub use Rattle.tile_plane.specs.Walks.{square_at}
pub use Rattle.tile_plane.specs.Tall.{IsTallAt, AreStrips, AreGrown, IsWideAt, AreCutAlong, AreCutAlongAt, NothingElseIsCutAlong, AreCut, AreCutAt}
pub use Rattle.tile_plane.specs.Tall.{NothingElseIsCut, CrossesHeight, AreJoining}
pub use Rattle.tile_plane.specs.steps.Bands.{AreColumnsTall, IsBanded, band_of, IsBandLaid, IsBandFree, IsWideBeside, IsOpenFrom, AreKept, IsLaid}
pub use Rattle.tile_plane.specs.steps.Bands.{IsLaidLeft, IsLaidRight, AreHigh, AreAsWide, IsTileCut}
pub use Rattle.tile_plane.specs.declared.tiles.Tile.{Tile}
pub use Rattle.tile_plane.specs.steps.Mends.{Side, Above, Right, Below, Left, stitch_of, square_of, AreRedirected, IsSideOf, IsEnd, with_stitch}
pub use Rattle.tile_plane.specs.steps.Mends.{LeadTo}
pub use Rattle.tile_plane.specs.steps.Sides.{GoesOn, along, end_of, first_of, HasLine, square_beside, IsLast, IsShort}
pub use Rattle.tile_plane.specs.steps.Cuts.{IsPartAfter, AreAlike, IsJoinedRight, IsHandedOver, opposite, IsJoinedUp, IsCutAcross, IsPartFrom}
pub use Rattle.tile_plane.specs.steps.Cuts.{low_of, part_at, square_at_cut}
pub use Rattle.tile_plane.specs.declared.slots.Slot.{Slot}
pub use Rattle.tile_plane.specs.Contents.{value_in, IsPlane, inner_range, Contents}
pub use Rattle.tile_plane.specs.Listings.{Meets, IsOnSide, IsFollower, low_row, part_in, ArePiecesIn}
pub use Rattle.tile_plane.specs.Sheets.{IsSheet, IsSecond}
