-- The tiles that visits of areas hand out, and what they make of the parts of a cell.
use Rattle.std.specs.Prelude.{◌≡◌, ◌==◌, ◌<◌, ℕ, if◌then◌else◌, List, [], ◌∷◌, ◌++◌, All}
use Rattle.finite_sets.specs.Lists.{Lists}
use Rattle.geo_core.specs.declared.squares.Rect.{Rect}
use Rattle.geo_core.specs.Areas.{IsNear}
use Rattle.geo_core.specs.Covering.{Covers}
use Rattle.tech_model.specs.declared.raw.RawTech.{RawTech}
use Rattle.tech_model.specs.Types.{parts_of}
use Rattle.cell_library.specs.LayoutModel.Places.{Place}
use Rattle.cell_library.specs.LayoutModel.CellTrees.{CellTree}
use Rattle.meeting_laws.specs.Offences.declared.set_tiles.SetTile.{SetTile}
use Rattle.cell_library.specs.declared.part_tiles.PartTile.{PartTile}
use Rattle.cell_library.specs.PartTiles.{IsPartTileIn, set_of_part, set_of_tiles}

-- A visit of the area hands out these tiles: its part tiles, each once, which make the cell's parts there.
pub record IsVisit (raw : RawTech) (tree : CellTree) (area : Rect) (tiles : List PartTile) : Type 0 where
  pub lists : Lists (IsPartTileIn tree area) tiles
  pub sets : (part : ℕ) (place : Place) → Covers area place.square → set_of_tiles raw tiles part place ≡ set_of_part raw tree part place

-- Visits of the areas, one after another, hand out these tiles.
abbrev pub AreVisits : RawTech → CellTree → List Rect → List PartTile → Type 0
AreVisits raw tree [] tiles = tiles ≡ []
AreVisits raw tree (area ∷ areas) tiles =
    (first : List PartTile) × (rest : List PartTile) × (tiles ≡ first ++ rest) × IsVisit raw tree area first × AreVisits raw tree areas rest

-- the tile of a part as a rectangle with a set
abbrev pub set_tile : RawTech → PartTile → SetTile
set_tile raw tile = record { part = tile.part; area = tile.area; set = record { 0 = parts_of raw tile.kind.0 } }

-- the tiles that lie on the plane
abbrev pub tiles_on : RawTech → ℕ → List PartTile → List SetTile
tiles_on raw plane [] = []
tiles_on raw plane (tile ∷ tiles) = if tile.plane == plane then set_tile raw tile ∷ tiles_on raw plane tiles else tiles_on raw plane tiles

-- The tiles are of these parts, and near.
abbrev pub AreOfParts : ℕ → List PartTile → Type 0
AreOfParts count tiles = All (λ tile. (tile.part < count) × IsNear tile.area) tiles
