-- The tiles of a meeting have members, and its pieces have regions.
use Rattle.tree_merges.proofs.Common.{◌≡◌, ◌≤◌, ◌<◌, ℕ, List, [], ◌∷◌, length, map, get_or, Some, sym, ap, subst, ◌∙◌, arith, slice_get, slice_index}
use Rattle.tree_merges.proofs.Common.{All, range_with_len, length-map, slice_get_within, slice_get-get_or, In-index, All-from_In, All-In, RawTech}
use Rattle.tree_merges.proofs.Common.{RegionTile, regions_of, CellTree, Regions, PlaneStack, SetLayout, ArePlaneStacks, AreByPart, NamedTree}
use Rattle.tree_merges.proofs.Common.{PartTile, AreMeetingPieces, HasCoveringTiles, MOST_PARTS, AreMeetingSums, AreMemberMarks, mark_at, TileMembers}
use Rattle.tree_merges.proofs.Common.{AreTileMembers, member_pairs, AreNumbered, ArePieceRegions, ArePieces}
use Rattle.piece_groups.specs.Laws.{piece_marks}
use Rattle.tree_merges.specs.declared.merging.MarkedSums.{MarkedSums}
use Rattle.tree_merges.specs.steps.MarkedMerges.{AreMarkedSums}
use Rattle.tree_merges.proofs.PieceTiles.{as_many}
use Rattle.tree_merges.proofs.RegionCounts.{marks_are_few}

-- the parts of pieces are in order
pub parts_in_order : (raw : RawTech) (stacks : List PlaneStack) → ArePieces raw stacks → All (λ piece. AreByPart piece.stack.kinds) stacks
parts_in_order raw stacks pieces =
    All-from_In (λ (piece : PlaneStack). AreByPart piece.stack.kinds) stacks (λ piece among. (pieces.are.each piece among).ordered)

-- and there are few
pub parts_are_few : (raw : RawTech) (stacks : List PlaneStack) → ArePieces raw stacks
    → All (λ piece. All (λ entry. entry.part < MOST_PARTS) piece.stack.kinds) stacks
parts_are_few raw stacks pieces =
    All-from_In (λ (piece : PlaneStack). All (λ entry. entry.part < MOST_PARTS) piece.stack.kinds) stacks (λ piece among.
    All-from_In (λ entry. entry.part < MOST_PARTS) piece.stack.kinds (λ entry listed.
    let within = (pieces.are.each piece among).within entry listed in
    let few = pieces.few in
    omega (arith, within, few)))

-- regions are no more than the pieces
pub regions_are_few : (raw : RawTech) (stacks : List PlaneStack) (regions : Regions) → ArePieces raw stacks → ArePieceRegions raw stacks regions
    → regions.count ≤ length stacks
regions_are_few raw stacks regions pieces are =
    let few : regions.count ≤ length (regions_of regions.tiles) =
    marks_are_few (regions_of regions.tiles) regions.count (are.are pieces.parts pieces.are).numbered in
    omega (arith, few, length-map regions.tiles (λ (tile : RegionTile). tile.region), as_many stacks are.labels regions.tiles are.same)

-- the tiles of a meeting have members, and its pieces have regions
pub members_are_numbered : (raw : RawTech) (tree : NamedTree) (cells : CellTree) (cell_tiles : List PartTile) (piece_list : List PlaneStack)
    (members : TileMembers) (regions : Regions) → AreMeetingPieces raw cells cell_tiles piece_list
    → ArePieces raw piece_list
    → AreTileMembers raw tree cell_tiles members.names.items members.numbers.items → ArePieceRegions raw piece_list regions
    → AreNumbered piece_list members regions
members_are_numbered raw tree cells cell_tiles piece_list members regions pieces few has are = record {
  tiles =
      All-from_In (λ (piece : PlaneStack). All (λ tile. tile < length members.numbers.items) piece.stack.members) piece_list (λ piece among.
      All-from_In (λ tile. tile < length members.numbers.items) piece.stack.members (λ tile listed.
      let covers = (All-In (HasCoveringTiles cell_tiles) piece_list piece pieces.covered among).each tile listed in
      let within = slice_get_within cell_tiles tile covers.tile covers.there in
      let long = has.one_each in
      omega (arith, within, long)));
  named =
      All-from_In (λ number. number < length members.names.items) members.numbers.items (λ number among.
      let place = In-index number members.numbers.items among in
      let below = place.1.0 in
      let long = has.one_each in
      let tile = tile_there cell_tiles place.0 (omega (arith, below, long)) in
      let named = has.each place.0 tile.0 tile.1 in
      subst (λ (n : ℕ). n < length members.names.items) (place.1.1 0)
      (slice_get_within members.names.items (slice_index members.numbers.items place.0) named.name named.there));
  one_each = as_many piece_list are.labels regions.tiles are.same;
  few = regions_are_few raw piece_list regions few are;
}
  where
    tile_there : (tiles : List PartTile) (k : ℕ) → k < length tiles → (tile : PartTile) × (slice_get tiles k ≡ Some tile)
    tile_there [] k below = absurd (omega (arith, below))
    tile_there (first ∷ rest) k below = (get_or (first ∷ rest) k first, slice_get-get_or (first ∷ rest) k first below)

-- the sums of pieces by their marks
pub marked_sums_are : (raw : RawTech) (piece_list : List PlaneStack) (members : TileMembers) (regions : Regions) (found : MarkedSums) (count : ℕ) (groups : List ℕ)
    → ArePieces raw piece_list → length regions.tiles ≡ length piece_list
    → AreMemberMarks (length members.names.items) regions.tiles regions.count
    (member_pairs members.numbers.items piece_list) found.marks.items
    → All (λ mark. mark < count) found.marks.items
    → groups ≡ map (mark_at (length members.names.items) regions.tiles found.marks.items) (range_with_len 0 (length regions.tiles))
    → ((parts : List SetLayout) → ArePlaneStacks raw parts piece_list
    → AreMeetingSums raw parts piece_list groups count found.sums.items)
    → AreMarkedSums raw piece_list members regions found
marked_sums_are raw piece_list members regions found count groups pieces long are_marks below are_groups are_sums =
    let many : length found.sums.items ≡ count = (are_sums pieces.parts pieces.are).one_each in record {
      are_marks = are_marks;
      below = subst (λ (most : ℕ). All (λ mark. mark < most) found.marks.items) (sym many) below;
      are_sums = λ parts are.
          subst (λ (so_many : ℕ). AreMeetingSums raw parts piece_list
          (piece_marks (length members.names.items) piece_list regions.tiles found.marks.items) so_many found.sums.items) (sym many)
          (subst (λ (all : List ℕ). AreMeetingSums raw parts piece_list all count found.sums.items)
          (are_groups ∙ ap (λ (so_many : ℕ). map (mark_at (length members.names.items) regions.tiles found.marks.items) (range_with_len 0 so_many)) long)
          (are_sums parts are));
    }
