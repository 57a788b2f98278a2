-- What most files of proofs name of what stands below, and of the definitions of this crate.
pub use Rattle.std.proofs.Common.{◌≡◌, ◌≢◌, ◌+◌, ◌<◌, ◌≤◌, ℕ, zero, suc, true, Option, List, [], ◌∷◌, length, take, bit_or, max, refl, sym, ap}
pub use Rattle.std.proofs.Common.{subst, ◌∙◌, arith, inl, inr, false, ◌||◌, get_or, Bool, ◌++◌, length-append, map, ◌⊎◌, ◌&&◌, rules}
pub use Rattle.std.specs.Prelude.{Some, None, IsTrue, All, if◌then◌else◌, Vec}
pub use Rattle.std.specs.Int.{bit_at}
pub use Rattle.std.proofs.lemmas.Bool.{cases_Bool, cases_eq, true≢false, eqb-true, eq-eqb, ne_eqb, cases_lt}
pub use Rattle.std.proofs.lemmas.Nat.Bits.{bit_at-zero, bit_at_or, same_from_bits}
pub use Rattle.std.specs.List.{list_any}
pub use Rattle.std.proofs.lemmas.List.{length-map, get_or-map, get_or_default, get_or_past, get_or_push, get_or_append_left}
pub use Rattle.std.specs.declared.alloc.Global.{Global}
pub use Rattle.geo_core.specs.FiniteSets.Lists.{In}
pub use Rattle.geo_core.proofs.FiniteSets.Searches.{find-In, find-passes, list_any-In, list_any-source}
pub use Rattle.tech_model.specs.declared.raw.TypeId.{TypeId}
pub use Rattle.tech_model.specs.declared.raw.RawTech.{RawTech}
pub use Rattle.tech_model.specs.Types.{is_type, type_number, plane_of}
pub use Rattle.tech_model.specs.WellFormed.{IsWellFormed}
pub use Rattle.tech_model.specs.Rules.{HaveOwnSets}
pub use Rattle.tech_model.specs.declared.columns.Brush.TheVariants.{Paint as PaintBrush}
pub use Rattle.tech_model.specs.Columns.{type_on}
pub use Rattle.tech_model.specs.ColumnForms.{IsOnPlane, IsColumn, HasWholeContacts}
pub use Rattle.geo_core.specs.declared.squares.Square.{Square}
pub use Rattle.geo_core.specs.declared.squares.Rect.{Rect}
pub use Rattle.geo_core.specs.Areas.{IsNear, LiesWithin, AreDisjoint, corner_of, joined_rect}
pub use Rattle.geo_core.specs.Covering.{Covers, is_covered, IsProper}
pub use Rattle.geo_core.proofs.CoveringLaws.{Covers-is_covered, is_covered-Covers, corner_covered, within_covers}
pub use Rattle.geo_core.proofs.FiniteSets.Members.{In-map, In-map_source}
pub use Rattle.geo_core.specs.declared.squares.Piece.{Piece}
pub use Rattle.tile_plane.specs.Listings.{ArePiecesIn}
pub use Rattle.layout_model.specs.Layouts.{Layout}
pub use Rattle.tech_model.specs.declared.limits.TheConstants.{MOST_PLANES, MOST_TYPES}
pub use Rattle.tech_model.specs.declared.columns.Brush.{Brush}
pub use Rattle.geo_core.specs.Planes.{AreSet, AreTilesIn, AreSame, IsBox}
pub use Rattle.tech_model.specs.declared.raw.TypeRec.{TypeRec}
pub use Rattle.tech_model.proofs.LocalLaws.{brushed-length}
pub use Rattle.tech_model.proofs.WholeLaws.{brushed_column-whole}
pub use Rattle.tech_model.proofs.WellFormedLaws.{type_bounds}
pub use Rattle.layout_model.specs.Places.{Place}
pub use Rattle.geo_core.proofs.TileSets.{tile_value, tile_inside, tiles_apart}
pub use Rattle.cell_paint.specs.Painting.{is_in_some, paint_range, first_area_fault, kinds_on, with_columns_where, place_at}
pub use Rattle.cell_paint.specs.steps.Changes.{kind_after, AreKnown, changed_pieces}
pub use Rattle.cell_paint.specs.Paints.{PlaneValue, number_on, no_plane, layout_on, KeepsTypes, IsSoundPaint, AreCellPlanes, Paint, layout_of}
pub use Rattle.cell_paint.specs.Paints.{seen_kind, IsReadyFor}
pub use Rattle.cell_paint.specs.steps.Settings.{IsSettable, AreChanges, pieces_for, AreSettable, AreAllSet, AreAllChanges}
pub use Rattle.cell_paint.specs.Pieces.{pieces_on, with_pieces, CanStandIn}
