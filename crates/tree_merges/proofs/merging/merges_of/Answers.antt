use Rattle.tree_merges.proofs.Common.{◌≡◌, List, sym, subst, RawTech, seen, PlaneStack, AreTileMembers, AreMarkedMerges, ArePieceRegions, ArePieces}
use Rattle.tile_members.specs.GroupMeetings.Laws.{RecordedPartsHaveMembers}
use Rattle.hier_merge.specs.CellLibrary.LayoutTrees.{tree_at}
use Rattle.tile_members.specs.LibraryTrees.NamedCells.{named_tree_at}
use Rattle.piece_groups.specs.Laws.{MarkedGroupsAreRecorded}
use Rattle.tree_merges.specs.Relations.{records_in}
use Rattle.tree_merges.proofs.CellMerges.{few_parts, meeting_pieces, merges_of_cell, records_below}
use Rattle.tree_merges.proofs.NumberedMembers.{members_are_numbered}
use Rattle.tree_merges.proofs.merging.merges_of.Goals as goal

pub regions_of_pieces-requires : goal.regions_of_pieces-requires
regions_of_pieces-requires g c =
    let library = c.args.library.now in
    let cell = c.args.cell.0 in
    let tech : c.tech-tech.result.now ≡ library.tech = c.tech-tech.ensures in
    let pieces : ArePieces library.tech c.args.pieces.items =
    meeting_pieces library.tech (tree_at (seen library) cell) c.args.tiles.items c.args.pieces.items c.requires.clean
    (few_parts library c.lawful.ensures cell c.requires.cell) c.requires.pieces in
    subst (λ (stacks : List PlaneStack). ArePieces c.tech-tech.result.now stacks) (sym c.as_slice.ensures.value)
    (subst (λ (raw : RawTech). ArePieces raw c.args.pieces.items) (sym tech) pieces)

pub members_of-requires-clause-tiles : goal.members_of-requires-clause-tiles
members_of-requires-clause-tiles g c = c.requires.pieces.are_tiles

pub merges_of_members-requires-clause-pieces : goal.merges_of_members-requires-clause-pieces
merges_of_members-requires-clause-pieces g c =
    let library = c.args.library.now in
    let cell = c.args.cell.0 in
    let tech : c.tech-tech.result.now ≡ library.tech = c.tech-tech.ensures in
    subst (λ (raw : RawTech). ArePieces raw c.args.pieces.items) (sym tech)
    (meeting_pieces library.tech (tree_at (seen library) cell) c.args.tiles.items c.args.pieces.items c.requires.clean
    (few_parts library c.lawful.ensures cell c.requires.cell) c.requires.pieces)

pub merges_of_members-requires-clause-numbered : goal.merges_of_members-requires-clause-numbered
merges_of_members-requires-clause-numbered g c =
    let library = c.args.library.now in
    let cell = c.args.cell.0 in
    let pieces = c.args.pieces.items in
    let tiles = c.args.tiles.items in
    let regions = c.in_ok-regions.regions in
    let members = c.in_ok-members.members in
    let tech : c.tech-tech.result.now ≡ library.tech = c.tech-tech.ensures in
    let are_regions : ArePieceRegions library.tech pieces regions =
    subst (λ (raw : RawTech). ArePieceRegions raw pieces regions) tech
    (subst (λ (stacks : List PlaneStack). ArePieceRegions c.tech-tech.result.now stacks regions) c.as_slice.ensures.value c.in_ok-regions.ensures) in
    let are_members : AreTileMembers library.tech (named_tree_at (seen library) cell) tiles members.names.items members.numbers.items =
    c.in_ok-members.ensures.members in
    members_are_numbered library.tech (named_tree_at (seen library) cell) (tree_at (seen library) cell) tiles pieces members regions c.requires.pieces
    (meeting_pieces library.tech (tree_at (seen library) cell) tiles pieces c.requires.clean
    (few_parts library c.lawful.ensures cell c.requires.cell) c.requires.pieces) are_members are_regions

pub returns-clause-merges : goal.returns-clause-merges
returns-clause-merges g c =
    let library = c.args.library.now in
    let cell = c.args.cell.0 in
    let pieces = c.args.pieces.items in
    let tiles = c.args.tiles.items in
    let regions = c.in_ok-regions.regions in
    let members = c.in_ok-members.members in
    let tech : c.tech-tech.result.now ≡ library.tech = c.tech-tech.ensures in
    let are_regions : ArePieceRegions library.tech pieces regions =
    subst (λ (raw : RawTech). ArePieceRegions raw pieces regions) tech
    (subst (λ (stacks : List PlaneStack). ArePieceRegions c.tech-tech.result.now stacks regions) c.as_slice.ensures.value c.in_ok-regions.ensures) in
    let are_members : AreTileMembers library.tech (named_tree_at (seen library) cell) tiles members.names.items members.numbers.items =
    c.in_ok-members.ensures.members in
    let nodes = c.requires.nodes in
    let records =
    records_below library c.lawful.ensures (records_in c.args.records.now) cell c.requires.cell c.kept_records_are_of_the_tree.ensures
    c.requires.records nodes.0 nodes.1 in
    let found = c.in_ok-merges.ensures in
    let group =
    merges_of_cell library.tech (named_tree_at (seen library) cell) (tree_at (seen library) cell)
    (c.named_trees_have_the_layouts.ensures (seen library) cell) tiles pieces members regions c.requires.pieces are_members are_regions
    (c.clean_cell_has_clean_tree.ensures c.requires.clean) c.lawful.ensures.well_formed c.lawful.ensures.rules
    (subst RecordedPartsHaveMembers tech c.recorded_parts_have_members.ensures)
    (subst MarkedGroupsAreRecorded tech c.marked_groups_are_recorded.ensures) records found.0
    (subst (λ (raw : RawTech). AreMarkedMerges raw pieces members regions found.0) tech found.1) in
    (found.0, group, found.2)
