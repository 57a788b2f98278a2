-- What most files of proofs name of what stands below, and of the definitions of this crate.
pub use Rattle.std.proofs.Common.{◌≡◌, ◌⊎◌, ◌+◌, ◌<◌, ℕ, zero, suc, List, [], ◌∷◌, ◌++◌, length, length-append, map, get_or, Option, refl, sym, ap}
pub use Rattle.std.proofs.Common.{subst, ◌∙◌, arith, inl, inr, ◌-◌, ◌≤◌, append_assoc, take, drop, true, true≢false, rules, set, ℤ, ◌≤ℤ◌, Bool, ◌*◌}
pub use Rattle.std.proofs.Common.{◌/◌, ◌%◌, pos, neg_ℤ, ◌+ℤ◌, ◌-ℤ◌, ◌*ℤ◌, ◌<ℤ◌, to_z, of_z, w64, FitsSigned, ◌≢◌, false, ◌&&◌, filter, remove}
pub use Rattle.std.specs.Prelude.{Some, None, All, IsTrue, slice_get, slice_index_or, cond, nat_lt, IfSome, unwrap_or, not, Vec, Ok, OnOk, IfErr}
pub use Rattle.std.specs.Prelude.{slice_set, ◌||◌, if◌then◌else◌, IfOk}
pub use Rattle.std.proofs.lemmas.List.{length-map, map-append, take_more, append-nil, drop_all, get_or_past, map-set, set-get_or, length-set}
pub use Rattle.std.proofs.lemmas.List.{take_all, get_or-set_same}
pub use Rattle.std.proofs.lemmas.Option.{slice_get_within, get_or_from_slice_get, slice_get-map, slice_get-get_or}
pub use Rattle.std.specs.List.{position, position_or_len, list_any}
pub use Rattle.std.specs.Str.{bytes_eq}
pub use Rattle.std.proofs.lemmas.Bool.{cases_Bool, and_parts, cases_lt, cases_eq}
pub use Rattle.std.proofs.lemmas.List.Elements.{All-push, All-set, All-take}
pub use Rattle.std.proofs.lemmas.Slice.Eq.{bytes_eq-Decides}
pub use Rattle.std.proofs.lemmas.Simd.{map-map}
pub use Rattle.std.specs.Option.{option_map, option_to_list}
pub use Rattle.std.proofs.lemmas.Int.{ints, clamps, to_z-of_z}
pub use Rattle.std.specs.Map.{values_of}
pub use Rattle.std.specs.declared.alloc.Global.{Global}
pub use Rattle.std.specs.Int.RustNames.{unsigned_abs}
pub use Rattle.std.proofs.Math.Nat.{mul-le-mul_right, div-lt_iff_lt-mul}
pub use Rattle.std.specs.Int.{bit_at}
pub use Rattle.std.proofs.lemmas.Result.{IfErr-weaker, on_ok_weaker, IfOk-weaker, on_err_weaker}
pub use Rattle.geo_core.specs.FiniteSets.Lists.{In, Distinct, Lists}
pub use Rattle.tech_model.specs.declared.raw.RawTech.{RawTech}
pub use Rattle.cell_bodies.specs.declared.bodies.CellBody.{CellBody}
pub use Rattle.cell_bodies.specs.Words.{is_use_id}
pub use Rattle.cell_tree.specs.declared.faults.TreeFault.{TreeFault}
pub use Rattle.cell_tree.specs.declared.faults.TreeFault.TheVariants.{Cycle as Crossing, TooManyUses, Passed, Memory as NoMemory}
pub use Rattle.cell_tree.specs.declared.sizes.Dimension.{Dimension}
pub use Rattle.cell_tree.specs.declared.sizes.Dimension.TheVariants.{Depth, Elements, Hull}
pub use Rattle.cell_tree.specs.declared.sizes.Size.{Size}
pub use Rattle.cell_tree.specs.declared.use_tables.UseBody.{UseBody}
pub use Rattle.cell_tree.specs.Additions.{MayCome, children_of, new_state, new_states}
pub use Rattle.cell_tree.specs.Sizes.{CellState, size_at, AreSizes, IsWithin, IsHullInRange, hulls_below, elements_below}
pub use Rattle.cell_tree.specs.Trees.{Tree, IsLawfulTree, IsLawfulOwn, WouldPass, WouldKeepWithin, cell_at, with_own, IsEdited, empty_cell}
pub use Rattle.cell_tree.specs.Trees.{with_moved, empty_cell as empty_state, RefusesInsertion}
pub use Rattle.cell_tree.specs.Trials.{ComesBefore}
pub use Rattle.cell_tree.proofs.SizeLaws.{child_is_lower}
pub use Rattle.cell_tree.proofs.ArrivalLaws.{above_as_deep}
pub use Rattle.cell_bodies.specs.declared.bodies.CellUse.{CellUse}
pub use Rattle.cell_bodies.specs.CellPaint.Paints.{layout_of, IsSoundPaint, KeepsTypes, Paint}
pub use Rattle.cell_tree.specs.declared.new_cells.NewCell.{NewCell}
pub use Rattle.geo_core.proofs.FiniteSets.Searches.{All-In, All-from_In}
pub use Rattle.tech_model.specs.declared.raw.Label.{Label}
pub use Rattle.tech_model.specs.declared.raw.TypeRec.{TypeRec}
pub use Rattle.geo_core.specs.declared.grids.Grid.{Grid}
pub use Rattle.geo_core.specs.declared.orients.Orient.{Orient}
pub use Rattle.geo_core.specs.declared.squares.Rect.{Rect}
pub use Rattle.geo_core.specs.declared.transforms.Transform.{Transform}
pub use Rattle.geo_core.specs.Areas.{LiesWithin, joined_rect, common_rect, IsNear}
pub use Rattle.geo_core.specs.Images.{identity, composed, image, inverted}
pub use Rattle.cell_bodies.specs.LayoutModel.Layouts.{Layout, IsMaterial}
pub use Rattle.cell_bodies.specs.CellPaint.Painting.{is_in_range, with_erased, with_paint, kinds_on}
pub use Rattle.cell_bodies.specs.Numbers.{has_sides, is_displacement}
pub use Rattle.cell_tree.specs.Hulls.{IsLawfulBox, SpansInRange, IsInside, displaced, element_hulls, round_all, IsPaintable}
pub use Rattle.cell_tree.specs.Uses.{IsLawfulUse, displacements, IsLawfulGrid, IsShift, moved_at, HasIdAt}
pub use Rattle.geo_core.proofs.FiniteSets.Members.{In-append_left, In-push_cases, In-filter_source, In-append_cases, In-append_right, In-map_source}
pub use Rattle.geo_core.proofs.FiniteSets.Members.{In-map, In-index, In-get_or}
pub use Rattle.geo_core.specs.declared.squares.Square.{Square}
pub use Rattle.geo_core.specs.Covering.{Covers, IsProper, is_covered}
pub use Rattle.geo_core.proofs.CoveringLaws.{filled_within, covers_both, IsProper-has_square, covers_is_proper}
pub use Rattle.cell_bodies.specs.LayoutModel.Places.{Place}
pub use Rattle.cell_bodies.specs.Bodies.{IsLabel}
pub use Rattle.cell_tree.proofs.WholeLaws.{cell_is}
pub use Rattle.geo_core.proofs.FiniteSets.Places.{drop-slice_get, In-slice_get, slice_get-set_other}
pub use Rattle.geo_core.specs.declared.orients.Orient.TheVariants.{R0, R90, R180, R270, Mx, My, Mx90, My90}
pub use Rattle.geo_core.proofs.ImageLaws.{transform_of, image-back, image-forth, rect_image-covers}
pub use Rattle.cell_tree.proofs.HullLaws.{inside_all}
pub use Rattle.indexmap.specs.IndexMap.{set_value_at, insert_entry}
pub use Rattle.cell_bodies.specs.LayoutModel.CellTrees.{CellTree, place_back, Standing, standings}
pub use Rattle.cell_bodies.specs.LayoutModel.FlatSets.{element_parts, parts_in, elements_in, flat_sets, sets_below, IsTyped}
pub use Rattle.cell_tree.specs.declared.limits.TheConstants.{MOST_ELEMENTS_BELOW, MOST_DEPTH, MOST_USES}
pub use Rattle.geo_core.specs.declared.limits.TheConstants.{MOST_ELEMENTS}
pub use Rattle.geo_core.specs.Elements.{elements_of, indices}
pub use Rattle.geo_core.specs.Reach.{MovesInReach, IsInReach}
pub use Rattle.geo_core.proofs.ElementLaws.{columns, rows, elements_of-at, length-elements_of, stands_at}
pub use Rattle.geo_core.proofs.SquareLaws.{rect_is}
pub use Rattle.tech_model.specs.Types.{parts_of, plane_of}
pub use Rattle.cell_bodies.specs.LayoutModel.CellTrees.CellTree.{cell_tree}
pub use Rattle.cell_bodies.specs.LayoutModel.CellTrees.Elements.{no_elements, element_and}
pub use Rattle.cell_tree.specs.Cells.{IsAbove}
pub use Rattle.tech_model.specs.declared.limits.TheConstants.{MOST_PLANES}
pub use Rattle.tech_model.specs.declared.raw.TypeId.{TypeId}
pub use Rattle.tech_model.specs.Columns.{type_on, painted_column, erased_column}
pub use Rattle.geo_core.specs.declared.squares.Piece.{Piece}
pub use Rattle.cell_bodies.specs.CellPaint.Pieces.{with_pieces, AreTakenOut, CanStandIn}
pub use Rattle.geo_core.specs.Planes.{AreTilesIn}
pub use Rattle.cell_bodies.proofs.CellPaint.PlaneLaws.{space_past}
pub use Rattle.cell_library.specs.declared.faults.LibFault.{LibFault}
pub use Rattle.cell_library.specs.declared.faults.LibFault.TheVariants.{Cycle, Memory, OutOfRange, NoUse, TooMany}
pub use Rattle.cell_library.specs.steps.AddedCells.{AreFitFor, contents_with, held_from, names_in, new_views, AreUsesAmong, kept_uses, views_from}
pub use Rattle.cell_library.specs.Additions.{CanBeAdded, kept_cell, kept_use}
pub use Rattle.cell_library.specs.steps.CellEdits.{of_tree, HasUseAt, TreeRefusesMove}
pub use Rattle.cell_library.specs.Contents.{Held, held_at, no_held, position_of, IsRepainted, held_of, held_in, IsSoundHeld, AreKept, without_last}
pub use Rattle.cell_library.specs.Libraries.{LibraryParts, IsLawfulLibrary, IsLawfulHeld, HasUseIds, cells_seen, uses_in, seen, edits_of}
pub use Rattle.cell_library.specs.Limits.{AreStatesOf, GoesPast}
pub use Rattle.cell_library.specs.Refusals.{EditIsRefused, HasFaultOrLacksMemory, FirstOf, NothingElse, has_id, stands_in_range}
pub use Rattle.cell_library.specs.Seen.{cell_view, cell_views}
pub use Rattle.cell_library.specs.Views.{CellView, LibraryView, names_of, no_cell, view_at, changed_at, with_cell_changed}
pub use Rattle.cell_library.specs.OwnBoxes.{OwnBoxIs, HoldsOwn, IsOwnBox, box_with}
pub use Rattle.cell_library.specs.ElementBoxes.{AreElementBoxes, HoldParts}
pub use Rattle.cell_library.specs.declared.contents.Content.{Content}
pub use Rattle.cell_library.specs.LayoutTrees.{elements_at, elements_from, tree_to, element_transform}
pub use Rattle.cell_library.specs.PartCounts.{element_count}
pub use Rattle.cell_library.specs.declared.limits.TheConstants.{MOST_EDITS}
pub use Rattle.cell_library.specs.declared.spots.Spot.{Spot}
pub use Rattle.cell_library.specs.declared.spots.UseSearch.{UseSearch}
pub use Rattle.cell_library.specs.steps.Spans.{IsGridOf, spot_at, spots_to, seen_by, seen_low_x, seen_high_x, seen_low_y, seen_high_y, CanBeDropped}
pub use Rattle.cell_library.specs.steps.Spans.{HoldsMultiples, AddsRow, SpansFar, HasRoomFor}
pub use Rattle.cell_library.specs.Spots.{AddsSpots, HasRoomToMove, standing_at, tile_at, AddsOwn, spots_at, spots_from, own_elements, cells_at}
pub use Rattle.cell_library.specs.Spots.{AreSifted, AreSiftedBy, AreNumbered, AreToldTo, CanBeVisited}
pub use Rattle.cell_library.specs.steps.MaterialBelow.{HasMaterial, HasMaterialBelow}
pub use Rattle.cell_library.specs.Edits.{moved_use, with_use_changed, erased, painted}
pub use Rattle.cell_library.specs.LawfulViews.{IsLawfulView}
pub use Rattle.cell_library.specs.Restorations.{relabelled, regridded, with_use_at, repainted}
pub use Rattle.cell_library.specs.declared.part_tiles.PartTile.{PartTile}
pub use Rattle.cell_library.specs.steps.VisitedTiles.{IsCutOf, HasThere, AddsTiles, placed_cells, placed_below, AreTold, AreOutside}
pub use Rattle.cell_library.specs.PartTiles.{IsPartTileIn, set_of_part, set_of_tiles}
pub use Rattle.cell_library.specs.steps.UsePlaces.{IsApart, spots_before, spots_of_use, spots_under, HasRoomBelow}
pub use Rattle.cell_library.specs.declared.spots.UsePlace.{UsePlace}
pub use Rattle.cell_library.specs.declared.use_trees.UseStart.{UseStart}
pub use Rattle.cell_library.specs.UseTrees.{start_at, use_box, start_behind, AreUseTrees}
pub use Rattle.cell_library.specs.steps.Visits.{HullIsAt, IsNearSpot}
