-- What most files of proofs name of what stands below, and of the definitions of this crate.
pub use Rattle.std.proofs.Common.{◌≡◌, ◌<◌, ℕ, suc, List, length, Option, Some, None, inl, refl, sym, subst, arith, zero, [], ◌∷◌, get_or, inr, ap}
pub use Rattle.std.proofs.Common.{◌∙◌, ◌+◌, map, take, ◌≤◌}
pub use Rattle.std.specs.Prelude.{slice_get, slice_index, All, AllPairs}
pub use Rattle.std.proofs.lemmas.Option.{slice_get-get_or, slice_get_within, get_or_from_slice_get}
pub use Rattle.std.specs.List.{range_with_len}
pub use Rattle.std.proofs.lemmas.List.{length-map, get_or-map, take_all}
pub use Rattle.geo_core.specs.Covering.{Covers, IsProper}
pub use Rattle.tech_model.specs.declared.raw.RawTech.{RawTech}
pub use Rattle.layout_model.specs.Places.{Place}
pub use Rattle.layout_model.specs.CellTrees.{CellTree}
pub use Rattle.layout_model.specs.FlatSets.{parts_in}
pub use Rattle.flood_nodes.specs.declared.found.Regions.{Regions}
pub use Rattle.hierarchy_model.specs.CleanCells.{IsClean}
pub use Rattle.piece_groups.specs.MeetingSums.TreeRecords.NamedTrees.{NamedTree}
pub use Rattle.offences.specs.declared.plane_stacks.PlaneStack.{PlaneStack}
pub use Rattle.hier_merge.specs.CellLibrary.Libraries.{seen}
pub use Rattle.hier_merge.specs.CellLibrary.declared.part_tiles.PartTile.{PartTile}
pub use Rattle.hier_merge.specs.MeetingPieces.{AreMeetingPieces, HasCoveringTiles}
pub use Rattle.piece_groups.specs.MeetingSums.declared.limits.TheConstants.{MOST_PARTS}
pub use Rattle.piece_groups.specs.MemberMarks.{AreMemberMarks, region_position, mark_at}
pub use Rattle.tile_members.specs.declared.members.TileMembers.{TileMembers}
pub use Rattle.tile_members.specs.TileMembers.{AreTileMembers}
pub use Rattle.finite_sets.specs.Lists.{In, Lists}
pub use Rattle.finite_sets.proofs.Searches.{All-In, All-from_In}
pub use Rattle.offences.specs.Offences.{SetLayout}
pub use Rattle.piece_groups.specs.MeetingSums.StackTiles.{tile_of, tiles_of}
pub use Rattle.partition.specs.Divides.{Divides, IsPair}
pub use Rattle.layout_model.specs.declared.region_tiles.RegionTile.{RegionTile}
pub use Rattle.finite_sets.proofs.Members.{In-index, In-map_source}
pub use Rattle.layout_model.specs.RegionTiles.{regions_of}
pub use Rattle.offences.specs.PlaneStacks.{ArePlaneStacks}
pub use Rattle.offences.specs.TypedStacks.{AreByPart}
pub use Rattle.piece_groups.specs.MeetingSums.Sums.{AreMeetingSums}
pub use Rattle.flood_nodes.specs.TileShares.{no_tile, tile_at, IsTileContact}
pub use Rattle.geo_core.specs.Areas.{IsNear}
pub use Rattle.flood_nodes.specs.Stacking.{AreSpread}
pub use Rattle.tree_merges.specs.steps.MarkedMerges.{AreMarkedMerges}
pub use Rattle.tree_merges.specs.steps.MemberPairs.{member_pairs, AddsPairs, pairs_from, piece_pairs}
pub use Rattle.tree_merges.specs.steps.Pieces.{ArePieceRegions, ArePieces, AreNumbered}
