-- Squares by their coordinates, and tiles that have squares in a row.
use Rattle.std.specs.Prelude.{ℕ, ℤ}
use Rattle.geo_core.specs.declared.squares.Square.{Square}
use Rattle.tile_plane.specs.Tiles.{Tiles, Owns}

abbrev pub square_at : ℤ → ℤ → Square
square_at x y = record { x = x; y = y }

-- The tile has a square in the row.
pub record HasRow (tiles : Tiles) (id : ℕ) (y : ℤ) : Type 0 where
  pub x : ℤ
  pub owns : Owns tiles id (square_at x y)
