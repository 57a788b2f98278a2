-- Stitches that lead to squares of an area from the tiles along one side of it, and what mending them does.
use Rattle.std.specs.Prelude.{◌≡◌, ℕ, ℤ}
use Rattle.geo_core.specs.declared.squares.Square.{Square}
use Rattle.geo_core.specs.declared.squares.Rect.{Rect}
use Rattle.geo_core.specs.Areas.{LiesWithin}
use Rattle.geo_core.specs.Covering.{Covers, IsProper}
use Rattle.tile_plane.specs.declared.tiles.Tile.{Tile}
use Rattle.tile_plane.specs.Tiles.{Tiles, tile_at, IsTaken, Owns, Leads, square_above, square_right, square_below, square_left}
pub use Rattle.tile_plane.specs.declared.sides.Side.{Side}
pub use Rattle.tile_plane.specs.declared.sides.Side.TheVariants.{Above, Right, Below, Left}
use Rattle.tile_plane.specs.steps.Cuts.{AreAlike, opposite}
use Rattle.tile_plane.specs.steps.Sides.{along, end_of, first_of, HasLine, square_beside}

abbrev pub stitch_of : Side → Tile → ℕ
stitch_of Above tile = tile.above
stitch_of Right tile = tile.right
stitch_of Below tile = tile.below
stitch_of Left tile = tile.left

-- the square that the stitch leads to
abbrev pub square_of : Side → Tile → Square
square_of Above tile = square_above tile
square_of Right tile = square_right tile
square_of Below tile = square_below tile
square_of Left tile = square_left tile

-- the tile with another stitch at the side
abbrev pub with_stitch : Side → Tile → ℕ → Tile
with_stitch Above tile id = record tile { above = id }
with_stitch Right tile id = record tile { right = id }
with_stitch Below tile id = record tile { below = id }
with_stitch Left tile id = record tile { left = id }

-- Stitches at this side of tiles to squares of the area lead to the number now, and nothing else has changed.
pub record LeadTo (side : Side) (area : Rect) (id : ℕ) (old new : Tiles) : Type 0 where
  pub rest : (k : ℕ) → tile_at new k ≡ with_stitch side (tile_at old k) (stitch_of side (tile_at new k))
  pub inside : (k : ℕ) → IsTaken old k → Covers area (square_of side (tile_at old k)) → stitch_of side (tile_at new k) ≡ id
  pub outside : (k : ℕ) → (Covers area (square_of side (tile_at old k)) → ⊥) → stitch_of side (tile_at new k) ≡ stitch_of side (tile_at old k)

-- All stitches to squares of the area lead to the number now, and nothing else has changed.
pub record AreRedirected (area : Rect) (id : ℕ) (old new : Tiles) : Type 0 where
  pub alike : (k : ℕ) → AreAlike (tile_at old k) (tile_at new k)
  pub inside : (side : Side) (k : ℕ) → IsTaken old k → Covers area (square_of side (tile_at old k)) → stitch_of side (tile_at new k) ≡ id
  pub outside : (side : Side) (k : ℕ) → (Covers area (square_of side (tile_at old k)) → ⊥)
      → stitch_of side (tile_at new k) ≡ stitch_of side (tile_at old k)

-- The area reaches this side of the tile of this number, and from the first tile beside it stitches lead along it.
pub record IsSideOf (side : Side) (tiles : Tiles) (area : Rect) (first id : ℕ) : Type 0 where
  pub proper : IsProper area
  pub within : LiesWithin area (tile_at tiles id).area
  pub edge : end_of side (tile_at tiles id).area ≡ end_of side area
  pub leads : Leads tiles first (square_beside side area (first_of side area))
  pub onward : (k : ℕ) (c : ℤ) → HasLine side area c → Owns tiles k (square_beside side area c)
      → Leads tiles (stitch_of (along side) (tile_at tiles k)) (square_of (along side) (tile_at tiles k))

-- The end at this side of the tile of this number, given as a tile of its own: its stitches lead to the tiles beside it, and stitches into it
-- from the rest of the tile lead to that tile.
pub record IsEnd (side : Side) (tiles : Tiles) (end : Tile) (id : ℕ) : Type 0 where
  pub outer : IsSideOf side tiles end.area (stitch_of side end) id
  pub near : IsSideOf (along side) tiles end.area (stitch_of (along side) end) id
  pub far : IsSideOf (opposite (along side)) tiles end.area (stitch_of (opposite (along side)) end) id
  pub inner : (k : ℕ) → IsTaken tiles k → Covers end.area (square_of side (tile_at tiles k)) → stitch_of side (tile_at tiles k) ≡ id
