-- Cells that were opened: the tiles of their own paint, found by area, and the nodes that these are of.
use Rattle.std.specs.Prelude.{◌≡◌, ◌<◌, ◌+ℤ◌, ℕ, pos, nat_eq, length, map, slice_get, slice_index, Some, All}
use Rattle.std.specs.HashMap.{get}
use Rattle.geo_core.specs.declared.squares.Rect.{Rect}
use Rattle.geo_core.specs.declared.squares.Square.{Square}
use Rattle.geo_core.specs.Areas.{IsNear, corner_of}
use Rattle.geo_core.specs.Reach.{LiesInReach, MovesInReach}
use Rattle.ext_model.specs.declared.records.NodeRec.{NodeRec}
use Rattle.layout_model.specs.Layouts.{IsMaterial}
use Rattle.layout_model.specs.Places.{Place}
use Rattle.layout_model.specs.RegionTiles.{AreLayoutTiles, LiesIn}
use Rattle.group_meetings.specs.CellNodes.RegionNodes.{AreNodesOfRegions}
use Rattle.layout_model.specs.CellTrees.{place_back}
use Rattle.element_paths.specs.CellLibrary.declared.part_tiles.PartTile.{PartTile}
use Rattle.element_paths.specs.CellLibrary.Libraries.{LibraryParts, seen}
use Rattle.element_paths.specs.CellLibrary.Views.{LibraryView, view_at}
use Rattle.element_paths.specs.LibraryTrees.TreeRecords.FetRecords.{IsOfNode}
use Rattle.tile_members.specs.declared.opened_cells.OpenedCell.{OpenedCell}
use Rattle.tile_members.specs.declared.opened_cells.OpenedCells.{OpenedCells}

-- the rectangle of one square
abbrev pub unit_at : Square → Rect
unit_at square = record { xlo = square.x; ylo = square.y; xhi = square.x +ℤ pos 1; yhi = square.y +ℤ pos 1 }

-- Some tile of the cell has the place.
abbrev pub HasTileAt : OpenedCell → Place → Type 0
HasTileAt opened place = (index : ℕ) × LiesIn opened.found.regions.tiles index place

-- The number is that of the node of a tile that has the place.
pub record IsNumberAt (opened : OpenedCell) (place : Place) (number : ℕ) : Type 0 where
  pub index : ℕ
  pub lies : LiesIn opened.found.regions.tiles index place
  pub is : number ≡ slice_index opened.found.numbers.items lies.tile.region

-- The areas that are searched are those of the tiles, which are near, and the region of each has a number.
pub record IsSearchable (opened : OpenedCell) : Type 0 where
  pub areas : opened.areas ≡ map (λ tile. tile.area) opened.found.regions.tiles
  pub near : All (λ tile. IsNear tile.area) opened.found.regions.tiles
  pub numbered : All (λ tile. tile.region < length opened.found.numbers.items) opened.found.regions.tiles

-- These are the tiles and the nodes of the cell's own paint.
pub record IsOpened (view : LibraryView) (cell : ℕ) (opened : OpenedCell) : Type 0 where
  pub searchable : IsSearchable opened
  pub tiles : AreLayoutTiles (view_at view cell).own opened.found.regions.tiles
  pub nodes : AreNodesOfRegions view.tech (view_at view cell).own (view_at view cell).labels opened.found.regions.tiles opened.found.regions.count
      opened.found.nodes opened.found.numbers.items

-- The node with this number has the place.
pub record HasNodeAt (view : LibraryView) (cell : ℕ) (opened : OpenedCell) (place : Place) (number : ℕ) : Type 0 where
  pub node : NodeRec
  pub there : slice_get opened.found.nodes number ≡ Some node
  pub is : IsOfNode view.tech (view_at view cell).own (view_at view cell).labels node.name place

-- the place of the lower left square of a tile
abbrev pub corner_place : PartTile → Place
corner_place tile = record { plane = tile.plane; square = corner_of tile.area }

-- The tile is of a cell of the library, which is moved in reach, and has something other than space at the tile's lower left square.
pub record HasOwnCorner (library : LibraryParts) (tile : PartTile) : Type 0 where
  pub there : tile.of.0 < length library.contents
  pub moves : MovesInReach tile.to_cell
  pub reach : LiesInReach (corner_of tile.area)
  pub material : IsMaterial (view_at (seen library) tile.of.0).own (place_back tile.to_cell (corner_place tile))

-- The node with this number that the cell of a tile has at the tile's lower left square, where the cell was opened.
pub record HasOpenNode (library : LibraryParts) (opened : OpenedCells) (tile : PartTile) (number : ℕ) : Type 0 where
  pub of : OpenedCell
  pub is_open : get nat_eq opened.entries tile.of.0 ≡ Some of
  pub has : HasNodeAt (seen library) tile.of.0 of (place_back tile.to_cell (corner_place tile)) number

-- What is kept under a cell is of its own paint.
abbrev pub AreOpened : LibraryView → OpenedCells → Type 0
AreOpened view cells = (cell : ℕ) (opened : OpenedCell) → get nat_eq cells.entries cell ≡ Some opened → IsOpened view cell opened

-- What was opened is kept.
abbrev pub KeepOpened : OpenedCells → OpenedCells → Type 0
KeepOpened old new = (cell : ℕ) (opened : OpenedCell) → get nat_eq old.entries cell ≡ Some opened → get nat_eq new.entries cell ≡ Some opened
