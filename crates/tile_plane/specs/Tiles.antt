-- Tiles by number: which tile has a square, where stitches lead, and what holds of all that a plane has.
use Rattle.std.specs.Prelude.{◌≡◌, ◌≢◌, ℕ, pos, ◌-ℤ◌, if◌then◌else◌, List, [], ◌∷◌, ◌<◌, Option, Some, None, IsSome}
use Rattle.std.specs.Ordering.{nat_cmp}
use Rattle.std.specs.FinMap as fin_map
use Rattle.geo_core.specs.declared.squares.Square.{Square}
use Rattle.geo_core.specs.Areas.{LiesWithin}
use Rattle.geo_core.specs.Covering.{Covers, is_covered, IsProper}
use Rattle.geo_core.specs.Planes.{plane_range}
use Rattle.tile_plane.specs.declared.tiles.Tile.{Tile}
use Rattle.tile_plane.specs.declared.slots.Slot.{Slot}
use Rattle.tile_plane.specs.Slots.{tile_of}

-- what stands where there is no tile: a tile with no square
abbrev pub no_tile : Tile
no_tile = record { area = record { xlo = pos 0; ylo = pos 0; xhi = pos 0; yhi = pos 0 }; value = 0; above = 0; right = 0; below = 0; left = 0 }

-- the tiles of a plane, each under its number
abbrev pub Tiles : Type 0
Tiles = fin_map.FinMap nat_cmp Slot

-- the tile of a number, if it has one
abbrev pub tile_if : Option Slot → Tile
tile_if None = no_tile
tile_if (Some slot) = tile_of slot

abbrev pub tile_at : Tiles → ℕ → Tile
tile_at tiles id = tile_if (fin_map.get tiles id)

-- The number stands for a tile with squares.
pub record IsTaken (tiles : Tiles) (id : ℕ) : Type 0 where
  pub proper : IsProper (tile_at tiles id).area

-- The tile of this number has the square.
pub record Owns (tiles : Tiles) (id : ℕ) (square : Square) : Type 0 where
  pub covers : Covers (tile_at tiles id).area square

-- Each square of the range lies in one tile, and no tile goes past the range.
pub record IsPartition (tiles : Tiles) : Type 0 where
  pub one : (a b : ℕ) (square : Square) → Owns tiles a square → Owns tiles b square → a ≡ b
  pub whole : (square : Square) → Covers plane_range square → (id : ℕ) × Owns tiles id square
  pub within : (id : ℕ) → IsTaken tiles id → LiesWithin (tile_at tiles id).area plane_range

-- the squares that the stitches of a tile lead to
abbrev pub square_above : Tile → Square
square_above tile = record { x = tile.area.xhi -ℤ pos 1; y = tile.area.yhi }

abbrev pub square_right : Tile → Square
square_right tile = record { x = tile.area.xhi; y = tile.area.yhi -ℤ pos 1 }

abbrev pub square_below : Tile → Square
square_below tile = record { x = tile.area.xlo; y = tile.area.ylo -ℤ pos 1 }

abbrev pub square_left : Tile → Square
square_left tile = record { x = tile.area.xlo -ℤ pos 1; y = tile.area.ylo }

-- The number is that of the tile of the square, where the range has the square.
abbrev pub Leads : Tiles → ℕ → Square → Type 0
Leads tiles id square = Covers plane_range square → Owns tiles id square

-- The stitches of each tile lead where they should.
pub record HasStitches (tiles : Tiles) : Type 0 where
  pub above : (id : ℕ) → IsTaken tiles id → Leads tiles (tile_at tiles id).above (square_above (tile_at tiles id))
  pub right : (id : ℕ) → IsTaken tiles id → Leads tiles (tile_at tiles id).right (square_right (tile_at tiles id))
  pub below : (id : ℕ) → IsTaken tiles id → Leads tiles (tile_at tiles id).below (square_below (tile_at tiles id))
  pub left : (id : ℕ) → IsTaken tiles id → Leads tiles (tile_at tiles id).left (square_left (tile_at tiles id))

-- the value of the first of these tiles that has the square, and 0 where none has it
abbrev pub value_among : Tiles → List ℕ → Square → ℕ
value_among tiles [] square = 0
value_among tiles (id ∷ ids) square = if is_covered (tile_at tiles id).area square then (tile_at tiles id).value else value_among tiles ids square

-- The value at a square: that of the tile that has it, and 0 off the range.
abbrev pub value_at : Tiles → Square → ℕ
value_at tiles square = value_among tiles (fin_map.keys tiles) square

-- the number comes after the given one, or none is given
abbrev pub IsAfter : Option ℕ → ℕ → Type 0
IsAfter None id = Unit {0}
IsAfter (Some before) id = before < id

-- The tile of the least number above the given one, or of the least of all where none is given. There may be none.
abbrev pub IsNextTile : Tiles → Option ℕ → Option ℕ → Type 0
IsNextTile tiles after None = (id : ℕ) → IsAfter after id → IsTaken tiles id → ⊥
IsNextTile tiles after (Some next) = IsAfter after next × IsTaken tiles next × ((id : ℕ) → IsAfter after id → id < next → IsTaken tiles id → ⊥)

-- Each tile has a square.
pub record AreProper (tiles : Tiles) : Type 0 where
  pub proper : (id : ℕ) → IsSome (fin_map.get tiles id) → IsTaken tiles id

-- The number has this tile now, and all others have what they had.
pub record IsPut (id : ℕ) (tile : Tile) (old new : Tiles) : Type 0 where
  pub here : tile_at new id ≡ tile
  pub others : (other : ℕ) → other ≢ id → tile_at new other ≡ tile_at old other
