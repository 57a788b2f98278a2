-- The tiles of the parts of a cell.
use Rattle.std.specs.Prelude.{◌≡◌, ◌≢◌, ◌==◌, ◌&&◌, ℕ, bit_or, if◌then◌else◌, List, [], ◌∷◌, slice_get, slice_index_or, Some}
use Rattle.geo_core.specs.declared.squares.Rect.{Rect}
use Rattle.geo_core.specs.Areas.{common_rect}
use Rattle.geo_core.specs.Covering.{IsProper, is_covered}
use Rattle.geo_core.specs.Images.{rect_image}
use Rattle.geo_core.specs.Strips.{IsStrip}
use Rattle.tech_model.specs.declared.raw.RawTech.{RawTech}
use Rattle.tech_model.specs.Types.{parts_of}
use Rattle.cell_bodies.specs.LayoutModel.Places.{Place}
use Rattle.cell_bodies.specs.LayoutModel.CellTrees.{CellTree, Standing, standings}
use Rattle.cell_bodies.specs.LayoutModel.FlatSets.{parts_in}
use Rattle.cell_library.specs.declared.part_tiles.PartTile.{PartTile}

-- The tile is a part tile of the cell, cut to the area: a strip of one type other than space of the own layout of a standing cell, taken
-- in that cell's coordinates and transformed. Some of it lies in the area.
pub record IsPartTileIn (tree : CellTree) (area : Rect) (tile : PartTile) : Type 0 where
  pub standing : Standing
  pub there : slice_get (standings tree) tile.element ≡ Some standing
  pub part : tile.part ≡ standing.part
  pub of : tile.of.0 ≡ standing.own.cell
  pub to_cell : tile.to_cell ≡ standing.placed
  pub strip : Rect
  pub is_strip : IsStrip (λ square. standing.own.layout (record { plane = tile.plane; square = square }) ≡ tile.kind.0) strip
  pub material : tile.kind.0 ≢ 0
  pub cut : tile.area ≡ common_rect (rect_image standing.placed strip) area
  pub meets : IsProper tile.area

-- the set that a tile adds to a part at a place
abbrev pub set_from : RawTech → ℕ → PartTile → Place → ℕ
set_from raw part tile place =
    if tile.part == part && place.plane == tile.plane && is_covered tile.area place.square then parts_of raw tile.kind.0 else 0

-- the union of the sets of a part's tiles at a place
abbrev pub set_of_tiles : RawTech → List PartTile → ℕ → Place → ℕ
set_of_tiles raw [] part place = 0
set_of_tiles raw (tile ∷ tiles) part place = bit_or (set_from raw part tile place) (set_of_tiles raw tiles part place)

-- the set of the part at this position of the cell, empty past the last
abbrev pub set_of_part : RawTech → CellTree → ℕ → Place → ℕ
set_of_part raw tree part = slice_index_or (parts_in raw tree) part (λ place. 0)
