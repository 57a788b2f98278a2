-- What most files of proofs name of what stands below, and of the definitions of this crate.
pub use Rattle.std.proofs.Common.{◌≡◌, ℕ, ℤ, pos, ◌+ℤ◌, ◌-ℤ◌, ◌≤ℤ◌, ◌<ℤ◌, true, false, List, [], ◌∷◌, ◌⊎◌, inl, inr, to_z, of_z, IsTrue, refl, sym}
pub use Rattle.std.proofs.Common.{ap, ◌∙◌, subst, arith, ◌+◌, ◌<◌, ◌++◌, length, get_or, take, drop, append_assoc, append-nil, length-drop, ◌-◌, ◌≤◌}
pub use Rattle.std.proofs.Common.{◌*ℤ◌, Bool, length-append}
pub use Rattle.std.specs.Prelude.{Some, None, ◌↔◌, slice_get, position, int_lt}
pub use Rattle.std.specs.Int.{w32, w64}
pub use Rattle.std.specs.Int.RustNames.{FitsSigned}
pub use Rattle.std.proofs.lemmas.Bool.{cases_Bool, both_ways}
pub use Rattle.std.proofs.lemmas.Int.{ints, clamps, to_z-of_z}
pub use Rattle.std.specs.Option.{is_some}
pub use Rattle.std.proofs.lemmas.Grind.{flat_map-append}
pub use Rattle.std.specs.List.{list_any, list_all, range_with_len}
pub use Rattle.std.specs.Str.{bytes_eq}
pub use Rattle.std.proofs.lemmas.Slice.Eq.{bytes_eq-Decides}
pub use Rattle.std.proofs.lemmas.Option.{slice_get-get_or, slice_get_within, get_or_from_slice_get}
pub use Rattle.finite_sets.specs.Lists.{In}
pub use Rattle.geo_core.specs.declared.squares.Square.{Square}
pub use Rattle.geo_core.specs.Covering.{Covers}
pub use Rattle.geo_core.specs.Elements.{indices}
pub use Rattle.ext_model.specs.ElementNames.{is_use_id, indexed_name, IsIndexed}
pub use Rattle.finite_sets.proofs.Members.{In-append_cases, In-get_or, In-index}
pub use Rattle.geo_core.specs.declared.squares.Rect.{Rect}
pub use Rattle.rect_trees.specs.Meetings.{IsMeeting, MissesAll}
pub use Rattle.geo_core.specs.Areas.{common_rect, corner_of}
pub use Rattle.geo_core.proofs.CoveringLaws.{covers_first, covers_second, covers_both, covers_is_proper, corner_covered}
pub use Rattle.geo_core.proofs.SquareLaws.{square_is, rect_is}
pub use Rattle.text_scan.specs.Decimal.{decimal}
pub use Rattle.name_index.proofs.Positions.{stands_nowhere, stands_where_found}
pub use Rattle.element_index.specs.GivenNames.{element_ids, names_in, is_among}
pub use Rattle.element_index.specs.NameParts.{ArePartsOf}
pub use Rattle.element_index.specs.Squares.{one_square, grid_area, IsNameAt, IsBlock, raised, lowered}
pub use Rattle.element_index.specs.Forests.{rects_of, MeetsSome}
pub use Rattle.element_index.specs.declared.limits.TheConstants.{ROWS_OF_AN_ID, MOST_IDS}
pub use Rattle.element_index.specs.declared.uses.UseElements.{UseElements}
