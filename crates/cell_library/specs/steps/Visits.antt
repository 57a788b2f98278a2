-- What a visit of a cell does at one standing cell.
use Rattle.std.specs.Prelude.{◌≡◌, ℕ, List, ◌++◌, map, Some}
use Rattle.geo_core.specs.declared.squares.Rect.{Rect}
use Rattle.geo_core.specs.declared.squares.Piece.{Piece}
use Rattle.geo_core.specs.Areas.{common_rect, IsNear}
use Rattle.geo_core.specs.Covering.{IsProper}
use Rattle.geo_core.specs.Images.{inverted, rect_image}
use Rattle.geo_core.specs.Planes.{AreTilesIn}
use Rattle.cell_bodies.specs.LayoutModel.Layouts.{Layout}
use Rattle.cell_bodies.specs.CellPaint.Painting.{kinds_on}
use Rattle.cell_tree.specs.declared.sizes.Size.{Size}
use Rattle.cell_tree.specs.Sizes.{size_at}
use Rattle.cell_library.specs.declared.part_tiles.PartTile.{PartTile}
use Rattle.cell_library.specs.declared.spots.Spot.{Spot}
use Rattle.cell_library.specs.Spots.{tile_at}

-- The cell has this hull.
abbrev pub HullIsAt : List Size → ℕ → Rect → Type 0
HullIsAt sizes cell hull = (size_at sizes cell).hull ≡ Some hull

-- The part is what the hull of the cell and an area have in common. It has a square.
pub record IsNearPart (sizes : List Size) (cell : ℕ) (back near : Rect) : Type 0 where
  pub hull : Rect
  pub is : HullIsAt sizes cell hull
  pub common : near ≡ common_rect back hull
  pub proper : IsProper near
  pub is_near : IsNear near

-- The same for an area that is given in the coordinates of the cell that is looked at.
abbrev pub IsNearSpot : List Size → Spot → Rect → Rect → Type 0
IsNearSpot sizes spot area near = IsNearPart sizes spot.cell.0 (rect_image (inverted spot.to_top) area) near

-- The pieces of a plane in an area were added as tiles of the cell at the spot.
pub record AddsPlane (layout : Layout) (spot : Spot) (plane : ℕ) (near : Rect) (old new : List PartTile) : Type 0 where
  pub pieces : List Piece
  pub are : AreTilesIn (kinds_on layout plane) near pieces
  pub is : new ≡ old ++ map (tile_at spot plane) pieces
