-- Tiles of the parts of a clean cell, and the members that have them: the laws, as statements.
use Rattle.std.specs.Prelude.{◌≡◌, ℕ, List}
use Rattle.geo_core.specs.Covering.{Covers}
use Rattle.geo_core.specs.declared.squares.Rect.{Rect}
use Rattle.tech_model.specs.declared.raw.RawTech.{RawTech}
use Rattle.tech_model.specs.Rules.{KeepsRules}
use Rattle.tech_model.specs.WellFormed.{IsWellFormed}
use Rattle.layout_model.specs.Places.{Place}
use Rattle.group_meetings.specs.TreeRecords.NamedTrees.{NamedTree, layouts_of}
use Rattle.group_meetings.specs.Members.{IsMemberOfPart}
use Rattle.group_meetings.specs.TreeNames.CleanTrees.{IsCleanTree}
use Rattle.element_paths.specs.CellLibrary.declared.part_tiles.PartTile.{PartTile}
use Rattle.element_paths.specs.CellLibrary.PartTiles.{IsPartTileIn}

-- The place lies in the tile.
pub record LiesInPartTile (tile : PartTile) (place : Place) : Type 0 where
  pub plane : place.plane ≡ tile.plane
  pub covers : Covers tile.area place.square

-- a member of a part that has one place of a tile of the part has each place of it
abbrev pub MembersHaveWholeTiles : RawTech → Type 0
MembersHaveWholeTiles raw =
    IsWellFormed raw → KeepsRules raw → (tree : NamedTree) → IsCleanTree raw tree → (area : Rect) (tile : PartTile) → IsPartTileIn (layouts_of tree) area tile
    → (a b : Place) → LiesInPartTile tile a → LiesInPartTile tile b → (name : List ℕ)
    → IsMemberOfPart raw tree tile.part a name → IsMemberOfPart raw tree tile.part b name
