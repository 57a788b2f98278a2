-- What most files of proofs name of what stands below, and of the definitions of this crate.
pub use Rattle.std.proofs.Common.{◌≡◌, ◌⊎◌, inl, inr, ℕ, ◌+◌, ◌-◌, ◌≤◌, ℤ, pos, ◌≤ℤ◌, ◌<ℤ◌, ◌-ℤ◌, List, [], ◌∷◌, ◌++◌, length, take, drop, get_or}
pub use Rattle.std.proofs.Common.{refl, sym, ◌∙◌, ap, subst, arith, ◌^◌, ◌≢◌, zero, suc, ◌<◌, ◌+ℤ◌, Option, Some, None, append_assoc, map, true}
pub use Rattle.std.proofs.Common.{false, cond, rules, w64}
pub use Rattle.std.specs.Prelude.{All, MatchOption, int_le, AllPairs}
pub use Rattle.std.specs.declared.ops.Range.{Range}
pub use Rattle.std.proofs.lemmas.Bool.{cases_lt, cases_eq}
pub use Rattle.std.proofs.lemmas.Int.{ints, clamps, to_z-of_z}
pub use Rattle.std.proofs.lemmas.List.{get_or-take, get_or-drop, length-take, length-drop, take_more, get_or_default}
pub use Rattle.std.proofs.lemmas.List.Sorted.{Contains-permutation, IsPermutation-sym, IsPartitionPoint-from_clause}
pub use Rattle.std.specs.Int.{int_min, int_max}
pub use Rattle.finite_sets.specs.Lists.{In}
pub use Rattle.finite_sets.proofs.Members.{In-get_or, In-append_left, In-append_right, In-append_cases, In-map, In-map_source}
pub use Rattle.finite_sets.proofs.Orders.{at_most_or_greater}
pub use Rattle.finite_sets.proofs.Searches.{All-In}
pub use Rattle.geo_core.specs.declared.limits.TheConstants.{PLANE_EDGE}
pub use Rattle.geo_core.specs.declared.squares.Square.{Square}
pub use Rattle.geo_core.specs.declared.squares.Piece.{Piece}
pub use Rattle.geo_core.specs.Areas.{IsNear, IsSmall, joined_rect, common_rect, AreDisjoint}
pub use Rattle.geo_core.specs.Covering.{Covers, IsProper}
pub use Rattle.geo_core.specs.Planes.{AreSet, HasValue, IsBox, AreTilesIn}
pub use Rattle.geo_core.specs.declared.squares.Rect.{Rect}
pub use Rattle.geo_core.specs.Strips.{IsStrip, IsStrips, IsInUnion}
pub use Rattle.geo_core.proofs.SquareLaws.{rect_is}
pub use Rattle.geo_core.proofs.CornerLaws.{no_piece, corner_key}
pub use Rattle.run_plane.specs.declared.runs.Run.{Run}
pub use Rattle.run_plane.specs.declared.rows.Row.{Row}
pub use Rattle.run_plane.specs.Rows.{value_at, number_at, top_runs, edge, AreRising, AreRows, runs_from, AreRuns}
pub use Rattle.run_plane.specs.steps.Changes.{square_at, Spans, AreAbove, AreHeights, AreRowsFor}
pub use Rattle.run_plane.specs.Contents.{replaced, Contents}
pub use Rattle.run_plane.specs.steps.Listings.{no_row, IsRowBox, piece_of, AreBetween, IsInPieces, AreTilesFrom, rects_with, parts_in}
