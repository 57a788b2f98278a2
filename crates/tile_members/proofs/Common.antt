-- What most files of proofs name of what stands below, and of the definitions of this crate.
pub use Rattle.std.proofs.Common.{◌≡◌, ◌⊎◌, ◌<◌, ℕ, zero, suc, List, [], ◌∷◌, length, inl, inr, refl, sym, ap, subst, ◌∙◌, ◌+◌, ◌++◌, Some, get_or}
pub use Rattle.std.proofs.Common.{arith, Bool, false, Vec, Global, cond, ◌≤◌, drop, take, ◌-◌, map, None, ◌≢◌}
pub use Rattle.std.specs.Prelude.{All, IsSome, slice_get, nat_eq, option_map, slice_index, position, IsTrue}
pub use Rattle.std.specs.HashMap.{get, get_by}
pub use Rattle.std.proofs.lemmas.Option.{slice_get_within, slice_get-get_or}
pub use Rattle.std.specs.Str.{bytes_eq}
pub use Rattle.std.proofs.lemmas.Bool.{cases_Bool, eqb-true}
pub use Rattle.std.proofs.lemmas.Slice.Eq.{bytes_eq-Decides}
pub use Rattle.std.proofs.lemmas.Result.{IfOk-weaker}
pub use Rattle.std.specs.List.{flat_map, list_any, position_from}
pub use Rattle.std.specs.Map.{lookup}
pub use Rattle.geo_core.specs.declared.transforms.Transform.{Transform}
pub use Rattle.tech_model.specs.declared.raw.RawTech.{RawTech}
pub use Rattle.layout_model.specs.Places.{Place}
pub use Rattle.layout_model.specs.CellTrees.{place_back, CellTree, Standing, standings, under}
pub use Rattle.ext_model.specs.Paths.{path_text}
pub use Rattle.element_paths.specs.CellTree.declared.limits.TheConstants.{MOST_DEPTH}
pub use Rattle.element_paths.specs.CellLibrary.Libraries.{LibraryParts, IsLawfulLibrary, seen}
pub use Rattle.element_paths.specs.CellLibrary.Views.{LibraryView, view_at}
pub use Rattle.element_paths.specs.LibraryTrees.TreeRecords.MemberGroups.{IsGroupName}
pub use Rattle.element_paths.proofs.LibraryTrees.WholeTrees.{UsesWithIds, named_tree_unfolds}
pub use Rattle.finite_sets.specs.Lists.{In, Distinct}
pub use Rattle.finite_sets.proofs.Places.{slice_get-one, All-slice_get, In-slice_get}
pub use Rattle.geo_core.specs.Images.{composed, identity, image, inverted}
pub use Rattle.ext_model.specs.declared.arrays.ArrayExt.{ArrayExt}
pub use Rattle.ext_model.specs.Plain.{plain, plain_merges, raised}
pub use Rattle.ext_model.specs.Tables.{Table, ext_of}
pub use Rattle.element_paths.proofs.CellLibrary.PlacedRects.{back_on, identity_back}
pub use Rattle.element_paths.specs.LibraryTrees.TreeRecords.FetRecords.{IsOfNode}
pub use Rattle.element_paths.proofs.LibraryTrees.LayoutLaws.{layouts_of_cell}
pub use Rattle.element_paths.specs.declared.steps.Step.{Step}
pub use Rattle.element_paths.specs.ElementPaths.{AreStepsTo}
pub use Rattle.ext_model.specs.declared.tables.CellKey.{CellKey}
pub use Rattle.element_paths.specs.CellLibrary.declared.part_tiles.PartTile.{PartTile}
pub use Rattle.finite_sets.proofs.Members.{In-append_left, In-append_right, In-map_source, In-append_cases}
pub use Rattle.ext_model.specs.declared.records.NodeRec.{NodeRec}
pub use Rattle.element_paths.specs.CellLibrary.PartTiles.{IsPartTileIn}
pub use Rattle.ext_model.specs.declared.records.MergeRec.{MergeRec}
pub use Rattle.ext_model.specs.declared.arrays.MergeRow.{MergeRow}
pub use Rattle.geo_core.specs.declared.squares.Square.{Square}
pub use Rattle.geo_core.specs.Areas.{corner_of, common_rect}
pub use Rattle.layout_model.specs.declared.region_tiles.RegionTile.{RegionTile}
pub use Rattle.layout_model.specs.Layouts.{IsMaterial}
pub use Rattle.geo_core.specs.declared.squares.Rect.{Rect}
pub use Rattle.geo_core.specs.Covering.{Covers}
pub use Rattle.geo_core.specs.Reach.{LiesInReach, MovesInReach}
pub use Rattle.rect_trees.specs.Meetings.{AreMeeting}
pub use Rattle.tech_model.specs.Rules.{KeepsRules}
pub use Rattle.tech_model.specs.WellFormed.{IsWellFormed}
pub use Rattle.group_meetings.specs.TreeNames.CleanTrees.{IsCleanTree}
pub use Rattle.tile_members.specs.GroupMeetings.Members.{IsMemberOfPart}
pub use Rattle.tile_members.specs.GroupLaws.{RecordsTellGroups}
pub use Rattle.tile_members.specs.MergedMembers.{first_member}
pub use Rattle.tile_members.specs.steps.Finding.{HasMembers}
pub use Rattle.tile_members.specs.steps.MemberNames.{LeadsToMember, kept_in}
pub use Rattle.tile_members.specs.declared.opened_cells.OpenedCells.{OpenedCells}
pub use Rattle.tile_members.specs.steps.KnownMembers.{AddsNameOrNone, IsOfMember, AddsName, same_key}
pub use Rattle.tile_members.specs.steps.OpenedCells.{AreOpened, KeepOpened, HasOpenNode, corner_place, IsNumberAt, unit_at}
pub use Rattle.tile_members.specs.TileMembers.{HasTile, IsPartTile, AreTileMembers}
pub use Rattle.tile_members.specs.TileLaws.{MembersHaveWholeTiles}
pub use Rattle.tile_members.specs.declared.opened_cells.OpenedCell.{OpenedCell}
pub use Rattle.tile_members.specs.steps.MergeTables.{has_second}
