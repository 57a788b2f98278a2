-- Lists of tiles, and of their parts in given areas.
use Rattle.std.specs.Prelude.{◌≡◌, ℕ, ℤ, pos, ◌-ℤ◌, ◌≤ℤ◌, ◌<ℤ◌, List, ◌++◌, map, All, AllPairs}
use Rattle.std.specs.Int.{int_max}
use Rattle.geo_core.specs.FiniteSets.Lists.{In, Lists}
use Rattle.geo_core.specs.declared.squares.Square.{Square}
use Rattle.geo_core.specs.declared.squares.Rect.{Rect}
use Rattle.geo_core.specs.declared.squares.Piece.{Piece}
use Rattle.geo_core.specs.Areas.{common_rect, AreDisjoint, IsNear, LiesWithin}
use Rattle.geo_core.specs.Covering.{Covers, IsProper}
use Rattle.geo_core.specs.Strips.{IsInUnion}
use Rattle.tile_plane.specs.Tiles.{Tiles, tile_at, Owns}
use Rattle.tile_plane.specs.Walks.{square_at}

-- The piece lies in an area of the list, and each of its squares has its value.
pub record IsPieceIn (values : Square → ℕ) (areas : List Rect) (piece : Piece) : Type 0 where
  pub area : Rect
  pub in_list : In area areas
  pub within : LiesWithin piece.area area
  pub even : (square : Square) → Covers piece.area square → values square ≡ piece.value

-- The pieces lie apart and cover exactly the squares of the areas, each with its value, those of value 0 too.
pub record ArePiecesIn (values : Square → ℕ) (areas : List Rect) (pieces : List Piece) : Type 0 where
  pub each : (piece : Piece) → In piece pieces → IsPieceIn values areas piece
  pub whole : (square : Square) → IsInUnion areas square → (piece : Piece) × In piece pieces × Covers piece.area square
  pub proper : All (λ piece. IsProper piece.area) pieces
  pub near : All (λ piece. IsNear piece.area) pieces
  pub apart : AllPairs (λ a b. AreDisjoint a.area b.area) pieces

-- The tile and the area have a square in common.
pub record Meets (tiles : Tiles) (area : Rect) (id : ℕ) : Type 0 where
  pub square : Square
  pub owns : Owns tiles id square
  pub covers : Covers area square

-- The tile has a square of the first column of the area.
pub record IsOnSide (tiles : Tiles) (area : Rect) (id : ℕ) : Type 0 where
  pub row : ℤ
  pub from : area.ylo ≤ℤ row
  pub to : row <ℤ area.yhi
  pub owns : Owns tiles id (square_at area.xlo row)

-- the lowest row of the tile in the area
abbrev pub low_row : Tiles → Rect → ℕ → ℤ
low_row tiles area id = int_max (tile_at tiles id).area.ylo area.ylo

-- The second tile has squares in the area, but not in its first column, and the first tile is the one to the left of its lowest row there.
pub record IsFollower (tiles : Tiles) (area : Rect) (a b : ℕ) : Type 0 where
  pub meets : Meets tiles area b
  pub later : area.xlo <ℤ (tile_at tiles b).area.xlo
  pub beside : Owns tiles a (square_at ((tile_at tiles b).area.xlo -ℤ pos 1) (low_row tiles area b))

-- To the list are added the things with P, each once.
pub record AddsAll (P : ℕ → Type 0) (old new : List ℕ) : Type 0 where
  pub more : List ℕ
  pub lists : Lists P more
  pub joined : new ≡ old ++ more

-- the part of a tile in the area
abbrev pub part_in : Tiles → Rect → ℕ → Piece
part_in tiles area id = record { area = common_rect (tile_at tiles id).area area; value = (tile_at tiles id).value }

-- To the list are added the parts in the area of all tiles that meet it.
pub record AddsParts (tiles : Tiles) (area : Rect) (old new : List Piece) : Type 0 where
  pub ids : List ℕ
  pub lists : Lists (Meets tiles area) ids
  pub joined : new ≡ old ++ map (part_in tiles area) ids
