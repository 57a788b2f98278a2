-- The members that have the tiles of the parts of a cell.
use Rattle.std.specs.Prelude.{◌≡◌, ◌<◌, ℕ, List, length, Some, slice_get, slice_index}
use Rattle.finite_sets.specs.Lists.{In, Distinct}
use Rattle.geo_core.specs.declared.squares.Rect.{Rect}
use Rattle.tech_model.specs.declared.raw.RawTech.{RawTech}
use Rattle.layout_model.specs.Places.{Place}
use Rattle.layout_model.specs.CellTrees.{CellTree}
use Rattle.element_paths.specs.CellLibrary.declared.part_tiles.PartTile.{PartTile}
use Rattle.element_paths.specs.CellLibrary.PartTiles.{IsPartTileIn}
use Rattle.element_paths.specs.LibraryTrees.TreeRecords.NamedTrees.{NamedTree}
use Rattle.tile_members.specs.GroupMeetings.Members.{IsMemberOfPart}
use Rattle.tile_members.specs.TileLaws.{LiesInPartTile}

-- The tile is a part tile of the cell, cut to some area.
abbrev pub IsPartTile : CellTree → PartTile → Type 0
IsPartTile tree tile = (area : Rect) × IsPartTileIn tree area tile

-- The member with this number has the tile: it is of the tile's part, and has each place of it.
pub record HasTile (raw : RawTech) (tree : NamedTree) (names : List (List ℕ)) (number : ℕ) (tile : PartTile) : Type 0 where
  pub name : List ℕ
  pub there : slice_get names number ≡ Some name
  pub has : (place : Place) → LiesInPartTile tile place → IsMemberOfPart raw tree tile.part place name

-- These are the names of the members that have the tiles, each once, and for each tile the number of the one that has it.
pub record AreTileMembers (raw : RawTech) (tree : NamedTree) (tiles : List PartTile) (names : List (List ℕ)) (numbers : List ℕ) : Type 0 where
  pub distinct : Distinct names
  pub one_each : length numbers ≡ length tiles
  pub each : (index : ℕ) (tile : PartTile) → slice_get tiles index ≡ Some tile → HasTile raw tree names (slice_index numbers index) tile
  pub used : (number : ℕ) → number < length names → In number numbers
