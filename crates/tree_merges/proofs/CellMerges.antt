-- The merges of members that are marked by the regions of pieces are those of the groups of a clean cell.
use Rattle.tree_merges.proofs.Common.{◌≡◌, ◌<◌, ℕ, suc, List, length, Option, Some, None, inl, refl, sym, subst, arith, Covers, RawTech, Place}
use Rattle.tree_merges.proofs.Common.{CellTree, parts_in, Regions, IsClean, NamedTree, PlaneStack, seen, PartTile, AreMeetingPieces, MOST_PARTS}
use Rattle.tree_merges.proofs.Common.{AreMemberMarks, TileMembers, AreTileMembers, AreMarkedMerges, member_pairs, ArePieceRegions, ArePieces}
use Rattle.geo_core.specs.declared.squares.Rect.{Rect}
use Rattle.flood_nodes.specs.RectContacts.Rects.{no_rect}
use Rattle.tech_model.specs.declared.raw.Label.{Label}
use Rattle.tech_model.specs.Rules.{KeepsRules}
use Rattle.tech_model.specs.WellFormed.{IsWellFormed}
use Rattle.layout_model.specs.Layouts.{IsMaterial, Layout}
use Rattle.ext_model.specs.declared.records.MergeRec.{MergeRec}
use Rattle.ext_model.specs.declared.records.NodeRec.{NodeRec}
use Rattle.tile_members.specs.GroupMeetings.CellNodes.NodeRecords.{AreNodeRecords}
use Rattle.piece_groups.specs.MeetingSums.TreeRecords.NamedTrees.{OwnBody, layouts_of, own_body}
use Rattle.piece_groups.specs.MeetingSums.TreeRecords.Merges.{AreGroupMerges}
use Rattle.tile_members.specs.GroupMeetings.TreeNames.CleanTrees.{IsCleanTree}
use Rattle.piece_groups.specs.MeetingSums.LowerMeetingLaws.PartLayouts.{HoldsAllMeetings, Passes}
use Rattle.hierarchy_model.specs.Restrictions.{IsRestriction}
use Rattle.tile_members.specs.GroupMeetings.Laws.{RecordedPartsHaveMembers}
use Rattle.tile_members.specs.GroupMeetings.Members.{PartsHaveMembers}
use Rattle.hier_merge.specs.CellTree.Trees.{cell_at}
use Rattle.hier_merge.specs.CellLibrary.LayoutTrees.{tree_at}
use Rattle.hier_merge.specs.CellLibrary.Libraries.{LibraryParts, IsLawfulLibrary, cells_seen}
use Rattle.hier_merge.specs.CellLibrary.OwnBoxes.{OwnBoxIs}
use Rattle.hier_merge.specs.CellLibrary.PartCounts.{element_count}
use Rattle.hier_merge.specs.CellLibrary.Views.{LibraryView, view_at}
use Rattle.hier_merge.proofs.CellLibrary.ElementCounts.{few_elements, part_count}
use Rattle.hier_merge.proofs.CellLibrary.ViewLaws.{state_there}
use Rattle.tile_members.specs.LibraryTrees.NamedCells.{named_tree_at, own_body_of}
use Rattle.tile_members.specs.LibraryTrees.KeptRecords.{HaveKeptRecordsBelow, KeptRecords}
use Rattle.tile_members.specs.LibraryTrees.RecordLaws.{KeptRecordsAreOfTheTree}
use Rattle.piece_groups.specs.MemberLaws.{AreMarkedPieces}
use Rattle.piece_groups.specs.Laws.{HasRecordsBelow, MarkedGroupsAreRecorded}
use Rattle.tree_merges.proofs.FlatTypes.{pieces_are_typed}
use Rattle.tree_merges.proofs.PairLaws.{members_in_pieces}
use Rattle.tree_merges.proofs.PieceTiles.{piece_is_tile}

-- ---- trees of a library

-- a cell has its own body
pub body_at : (view : LibraryView) (cell : ℕ) → own_body (named_tree_at view cell) ≡ own_body_of view cell
unfolding named_tree_at
body_at view cell = refl

-- a cell has fewer parts than there may be
pub few_parts : (library : LibraryParts) → IsLawfulLibrary library → (cell : ℕ) → cell < length library.contents
    → length (parts_in library.tech (tree_at (seen library) cell)) < MOST_PARTS
unfolding tree_at
few_parts library lawful cell below =
    let few = few_elements library lawful cell below in
    let count : length (parts_in library.tech (tree_at (seen library) cell)) ≡ suc (element_count (view_at (seen library) cell).uses) =
    part_count library.tech (seen library) 63 cell in
    omega (arith, few, count)

-- an area holds all that a cell has of its own
own_material : (own : Layout) (labels : List Label) (box : Option Rect) → OwnBoxIs own labels box
    → (area : Rect) × ((place : Place) → IsMaterial own place → Covers area place.square)
own_material own labels None is = (no_rect, λ place material. absurd (is (inl (place, material))))
own_material own labels (Some box) is = (box, λ place material. is.holds.material place material)

own_area : (library : LibraryParts) → IsLawfulLibrary library → (cell : ℕ) → cell < length library.contents
    → (area : Rect) × ((place : Place) → IsMaterial (own_body (named_tree_at (seen library) cell)).layout place → Covers area place.square)
own_area library lawful cell below =
    let view = view_at (seen library) cell in
    let there : cell < length library.tree.cells = let many = lawful.so_many in omega (arith, below, many) in
    let box = state_there (cells_seen library.contents library.tree) library.tree.cells cell lawful.boxes there in
    subst (λ (body : OwnBody). (area : Rect) × ((place : Place) → IsMaterial body.layout place → Covers area place.square))
    (sym (body_at (seen library) cell)) (own_material view.own view.labels (cell_at library.tree.cells cell).own box)

-- the nodes of a cell and the cells of its elements have records, where records are kept
pub records_below : (library : LibraryParts) → IsLawfulLibrary library → (kept : KeptRecords) (cell : ℕ) → cell < length library.contents
    → KeptRecordsAreOfTheTree library → HaveKeptRecordsBelow (seen library) kept cell → (nodes : List NodeRec)
    → AreNodeRecords library.tech (view_at (seen library) cell).own (view_at (seen library) cell).labels nodes
    → HasRecordsBelow library.tech (named_tree_at (seen library) cell)
records_below library lawful kept cell below law have nodes are =
    let exts = law kept cell below have in
    let own = own_area library lawful cell below in
    record {
      area = own.0;
      inside = own.1;
      nodes = nodes;
      own = subst (λ (body : OwnBody). AreNodeRecords library.tech body.layout body.labels nodes) (sym (body_at (seen library) cell)) are;
      exts = exts.0;
      elements = exts.1;
    }

-- ---- pieces

-- the pieces of a clean cell are pieces of few parts, with types
pub meeting_pieces : (raw : RawTech) (cells : CellTree) (cell_tiles : List PartTile) (piece_list : List PlaneStack) → IsClean raw cells
    → length (parts_in raw cells) < MOST_PARTS → AreMeetingPieces raw cells cell_tiles piece_list
    → ArePieces raw piece_list
meeting_pieces raw cells cell_tiles piece_list clean few pieces = record {
  parts = pieces.others;
  are = pieces.pieces;
  few = let count = pieces.restricted.count in omega (arith, few, count);
  typed = pieces_are_typed raw cells cell_tiles piece_list clean pieces;
  by_plane = pieces.by_plane;
  planes = pieces.planes;
}

module _ (raw : RawTech) (tree : NamedTree) (cells : CellTree) (same : layouts_of tree ≡ cells) (cell_tiles : List PartTile)
    (piece_list : List PlaneStack) (members : TileMembers)
    (regions : Regions) (pieces : AreMeetingPieces raw cells cell_tiles piece_list)
    (are_members : AreTileMembers raw tree cell_tiles members.names.items members.numbers.items)
    (are_regions : ArePieceRegions raw piece_list regions) (clean : IsCleanTree raw tree) where
  -- the pieces of the cell are marked
  marked_pieces : PartsHaveMembers raw tree → (marks : List ℕ)
      → AreMemberMarks (length members.names.items) regions.tiles regions.count
      (member_pairs members.numbers.items piece_list) marks
      → AreMarkedPieces raw pieces.within tree pieces.others piece_list members.names.items
      (member_pairs members.numbers.items piece_list) regions.tiles regions.count marks
  marked_pieces have marks are_marks = record {
    clean = clean;
    members = have;
    restricted = record {
      typed = clean.typed;
      clean = clean.clean;
      holds = subst (λ (c : CellTree). HoldsAllMeetings (Passes pieces.within) (parts_in raw c)) (sym same) pieces.holds;
      restricted = subst (λ (c : CellTree). IsRestriction (Passes pieces.within) (parts_in raw c) pieces.others) (sym same) pieces.restricted;
    };
    stacks = pieces.pieces;
    names = members_in_pieces raw tree cells cell_tiles piece_list members.names.items members.numbers.items
        pieces are_members;
    one_each = piece_is_tile piece_list are_regions.labels regions.tiles are_regions.same;
    regions = are_regions.are pieces.others pieces.pieces;
    marks = are_marks;
  }

  -- so the merges of the marks are those of the cell
  pub merges_of_cell : IsWellFormed raw → KeepsRules raw → RecordedPartsHaveMembers raw → MarkedGroupsAreRecorded raw → HasRecordsBelow raw tree
      → (merges : List MergeRec) → AreMarkedMerges raw piece_list members regions merges → AreGroupMerges raw tree merges
  merges_of_cell formed rules recorded law records merges are =
      let have = recorded formed records.exts tree records.nodes clean.clean records.own records.elements in
      law formed rules pieces.within tree pieces.others piece_list members.names.items
      (member_pairs members.numbers.items piece_list) regions.tiles regions.count
      are.found.marks.items are.found.sums.items
      are.are_merges.groups merges records (marked_pieces have are.found.marks.items are.are.are_marks) (are.are.are_sums pieces.others pieces.pieces)
      are.are_merges.marked are.are_merges.are
