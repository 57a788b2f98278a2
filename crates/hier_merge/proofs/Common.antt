-- What most files of proofs name of what stands below, and of the definitions of this crate.
pub use Rattle.std.proofs.Common.{◌≡◌, ◌<◌, ◌+◌, ◌∙◌, ℕ, suc, refl, sym, ap, subst, arith, List, [], ◌∷◌, ◌++◌, length, map, take, drop, get_or, ◌≢◌}
pub use Rattle.std.proofs.Common.{◌⊎◌, inl, inr, ◌≤◌, ◌≤ℤ◌, ◌<ℤ◌, zero, Bool, pos, ◌-◌, cond, ne_eqb, bit_or, ◌&&◌, true, false}
pub use Rattle.std.specs.Prelude.{All, Some, slice_get, AllPairs, IsPermutation, ◌↔◌, slice_index, Option, None, slice_index_or, ◌==◌}
pub use Rattle.std.proofs.lemmas.List.{length-map, take-append-drop, map-append, append-nil, append_assoc, length-append, nil_from_length}
pub use Rattle.std.specs.Int.{bit_at}
pub use Rattle.std.proofs.lemmas.Bool.{cases_Bool, cases_eq, false≢true, cases_lt, eq-eqb}
pub use Rattle.std.proofs.lemmas.List.FromFn.{length-map-range_with_len}
pub use Rattle.std.proofs.lemmas.Option.{slice_get_within, slice_get-get_or, get_or_from_slice_get}
pub use Rattle.std.specs.List.{range_with_len}
pub use Rattle.std.proofs.lemmas.List.Sorted.{IsPermutation-sym}
pub use Rattle.std.proofs.lemmas.Int.{ints}
pub use Rattle.std.specs.Option.{option_to_list}
pub use Rattle.std.specs.Vec.Iter.{into_iter_items, into_iter_len}
pub use Rattle.finite_sets.specs.Lists.{In}
pub use Rattle.finite_sets.proofs.Members.{In-get_or, In-append_cases, In-map_source, In-append_left, In-append_right, In-map, In-permutation}
pub use Rattle.tech_model.specs.declared.raw.RawTech.{RawTech}
pub use Rattle.cell_library.specs.LayoutModel.CellTrees.{CellTree, Elements}
pub use Rattle.cell_library.specs.LayoutModel.CellTrees.CellTree.{cell_tree}
pub use Rattle.meeting_laws.specs.HierarchyModel.CleanCells.{AreClean, IsClean, IsCleanBelow}
pub use Rattle.cell_library.specs.LayoutTrees.{own_cell, tree_at}
pub use Rattle.cell_library.specs.Libraries.{IsLawfulLibrary, LibraryParts, seen}
pub use Rattle.cell_library.specs.Views.{LibraryView, view_at}
pub use Rattle.finite_sets.proofs.Searches.{All-In, All-from_In}
pub use Rattle.geo_core.specs.declared.squares.Square.{Square}
pub use Rattle.geo_core.specs.Areas.{IsNear, AreDisjoint, widened}
pub use Rattle.geo_core.specs.Covering.{Covers, is_covered, IsProper}
pub use Rattle.geo_core.proofs.CoveringLaws.{Covers-is_covered, is_covered-Covers, covers_widened, covers_second}
pub use Rattle.geo_core.proofs.StripSets.{strip_is_proper, strip_within, strips_same}
pub use Rattle.tech_model.specs.Types.{joined, parts_of}
pub use Rattle.tech_model.specs.WellFormed.{IsWellFormed}
pub use Rattle.cell_library.specs.LayoutModel.LayerTypes.{HasTypesOf}
pub use Rattle.cell_library.specs.LayoutModel.Places.{Place}
pub use Rattle.cell_library.specs.LayoutModel.CellTrees.Elements.{no_elements, element_and}
pub use Rattle.cell_library.specs.LayoutModel.FlatSets.{AreTyped, IsTyped, parts_in}
pub use Rattle.meeting_laws.specs.Offences.declared.set_tiles.SetTile.{SetTile}
pub use Rattle.meeting_laws.specs.Offences.declared.stacks.TypedStack.{TypedStack}
pub use Rattle.meeting_laws.specs.Offences.SetTiles.{tile_part, tile_parts}
pub use Rattle.meeting_laws.specs.Offences.TypedStacks.{AreTypedStacks, IsTypedStack, on_plane, HasMembers, StandForTiles, typed_stack_areas}
pub use Rattle.meeting_laws.proofs.Offences.TileLaws.{part_bit, part_kept}
pub use Rattle.meeting_laws.proofs.Offences.UnionLaws.{no_part, same_sets}
pub use Rattle.cell_library.specs.declared.part_tiles.PartTile.{PartTile}
pub use Rattle.cell_library.specs.PartTiles.{set_of_tiles, IsPartTileIn, set_from}
pub use Rattle.finite_sets.proofs.Places.{slice_get-below}
pub use Rattle.geo_core.specs.declared.squares.Rect.{Rect}
pub use Rattle.tech_model.specs.Rules.{KeepsRules}
pub use Rattle.meeting_laws.specs.Offences.declared.plane_stacks.PlaneStack.{PlaneStack}
pub use Rattle.meeting_laws.specs.Offences.Offences.{HaveTypes, OffendsOn, SetLayout, joined_at}
pub use Rattle.finite_sets.proofs.Pairs.{AllPairs-from_Pairwise, Pairwise-append, Pairwise-from_AllPairs, Pairwise}
pub use Rattle.geo_core.specs.Strips.{IsStrips, IsInUnion}
pub use Rattle.interact.specs.NearBoxes.{IsShared}
pub use Rattle.meeting_laws.specs.HierarchyModel.Restrictions.{HoldsMeetings, IsRestriction}
pub use Rattle.cell_library.specs.ElementBoxes.{HoldParts}
pub use Rattle.geo_core.specs.Images.{rect_image}
pub use Rattle.cell_library.specs.CellTree.Hulls.{IsLawfulBox}
pub use Rattle.cell_library.specs.LayoutModel.Layouts.{Layout}
pub use Rattle.hier_merge.specs.steps.PlanePieces.{HasTiles, ArePiecesFrom, HaveTypedParts, plane_stack, parts_of_plane, ArePlanePieces}
pub use Rattle.hier_merge.specs.steps.Visits.{AreOfParts, set_tile, tiles_on, AreVisits, IsVisit}
pub use Rattle.hier_merge.specs.steps.MeetingTiles.{AreMeetingTiles}
pub use Rattle.hier_merge.specs.StripLists.{AreStripsByPlane, AreStripsFrom}
pub use Rattle.hier_merge.specs.steps.Seams.{AreTilePieces, renumbered, IsSeam, numbered_on, AreSeams}
pub use Rattle.hier_merge.specs.declared.plane_tiles.NumberedTile.{NumberedTile}
pub use Rattle.hier_merge.specs.Interactions.{PaintBoxIs, IsWorkOver}
