-- What a cut of a tile and a join of two do: the squares of an area go from one tile to another.
use Rattle.std.specs.Prelude.{◌≡◌, ◌≢◌, ◌⊎◌, ℕ, ℤ, pos, ◌-ℤ◌, ◌<ℤ◌}
use Rattle.geo_core.specs.declared.squares.Square.{Square}
use Rattle.geo_core.specs.declared.squares.Rect.{Rect}
use Rattle.geo_core.specs.Covering.{Covers}
use Rattle.tile_plane.specs.declared.tiles.Tile.{Tile}
use Rattle.tile_plane.specs.declared.sides.Side.{Side}
use Rattle.tile_plane.specs.declared.sides.Side.TheVariants.{Above, Right, Below, Left}
use Rattle.tile_plane.specs.Tiles.{Tiles, tile_at, IsTaken, Owns}
use Rattle.tile_plane.specs.Walks.{square_at}

-- The squares of the area belong to the tile of this number now, and all others to the tiles that had them.
pub record IsHandedOver (area : Rect) (id : ℕ) (old new : Tiles) : Type 0 where
  pub given : (square : Square) → Covers area square → Owns new id square
  pub taker : (k : ℕ) (square : Square) → Owns new k square → Covers area square → k ≡ id
  pub kept : (k : ℕ) (square : Square) → Owns old k square → (Covers area square → ⊥) → Owns new k square
  pub source : (k : ℕ) (square : Square) → Owns new k square → (Covers area square → ⊥) → Owns old k square

-- Both tiles have the same squares and one value.
pub record AreAlike (old new : Tile) : Type 0 where
  pub area : new.area ≡ old.area
  pub value : new.value ≡ old.value

-- Of two numbers one is that of a tile, and the other has no tile.
abbrev pub OneIsFree : ℕ → ℕ → ℕ → Tiles → Type 0
OneIsFree id a b tiles = ((a ≡ id) × (IsTaken tiles b → ⊥)) ⊎ ((b ≡ id) × (IsTaken tiles a → ⊥))

-- The tile of the first number is cut in two, which have these areas. One of them has its number, and the other a number that had no tile.
pub record IsInTwo (id lower upper : ℕ) (below above : Rect) (old new : Tiles) : Type 0 where
  pub free : OneIsFree id lower upper old
  pub low : (tile_at new lower).area ≡ below
  pub high : (tile_at new upper).area ≡ above
  pub low_value : (tile_at new lower).value ≡ (tile_at old id).value
  pub high_value : (tile_at new upper).value ≡ (tile_at old id).value
  pub others : (k : ℕ) → k ≢ lower → k ≢ upper → AreAlike (tile_at old k) (tile_at new k)

-- It is cut at y: the second number has the part below and the third the one above.
abbrev pub IsCutAcross : ℕ → ℕ → ℕ → ℤ → Tiles → Tiles → Type 0
IsCutAcross id lower upper y old new =
    IsInTwo id lower upper (record (tile_at old id).area { yhi = y }) (record (tile_at old id).area { ylo = y }) old new

-- It is cut at x: the second number has the left part, and the third the right one.
abbrev pub IsCutAlong : ℕ → ℕ → ℕ → ℤ → Tiles → Tiles → Type 0
IsCutAlong id left right x old new =
    IsInTwo id left right (record (tile_at old id).area { xhi = x }) (record (tile_at old id).area { xlo = x }) old new

abbrev pub opposite : Side → Side
opposite Above = Below
opposite Right = Left
opposite Below = Above
opposite Left = Right

-- where an area begins and ends on the way to a side or to the one opposite
abbrev pub low_of : Side → Rect → ℤ
low_of Above area = area.ylo
low_of Right area = area.xlo
low_of Below area = area.ylo
low_of Left area = area.xlo

abbrev pub high_of : Side → Rect → ℤ
high_of Above area = area.yhi
high_of Right area = area.xhi
high_of Below area = area.yhi
high_of Left area = area.xhi

-- the part at this side of a tile that is cut at a height or a column, with these stitches across the cut and beside it
abbrev pub part_at : Side → ℤ → ℕ → ℕ → Tile → Tile
part_at Above y across beside tile = record tile { area = record tile.area { ylo = y }; below = across; left = beside }
part_at Right x across beside tile = record tile { area = record tile.area { xlo = x }; left = across; below = beside }
part_at Below y across beside tile = record tile { area = record tile.area { yhi = y }; above = across; right = beside }
part_at Left x across beside tile = record tile { area = record tile.area { xhi = x }; right = across; above = beside }

-- the square that its stitch beside the cut leads to
abbrev pub square_at_cut : Side → Rect → ℤ → Square
square_at_cut Above area y = square_at (area.xlo -ℤ pos 1) y
square_at_cut Right area x = square_at x (area.ylo -ℤ pos 1)
square_at_cut Below area y = square_at area.xhi (y -ℤ pos 1)
square_at_cut Left area x = square_at (x -ℤ pos 1) area.yhi

-- The tile of the first number is cut, and the second, which had no tile, has the part at this side.
abbrev pub IsCutAt : Side → ℕ → ℕ → ℤ → Tiles → Tiles → Type 0
IsCutAt Above id part y old new = IsCutAcross id id part y old new
IsCutAt Right id part x old new = IsCutAlong id id part x old new
IsCutAt Below id part y old new = IsCutAcross id part id y old new
IsCutAt Left id part x old new = IsCutAlong id part id x old new

-- The second number has the part of the first tile from y on: it is the tile itself where this begins there, and else what was cut off.
abbrev pub IsPartFrom : ℕ → ℕ → ℤ → Tiles → Tiles → Type 0
IsPartFrom id part y old new = (((tile_at old id).area.ylo ≡ y) × (part ≡ id) × (new ≡ old))
    ⊎ ((lower : ℕ) × ((tile_at old id).area.ylo <ℤ y) × IsCutAcross id lower part y old new)

-- It has the part from x on.
abbrev pub IsPartAfter : ℕ → ℕ → ℤ → Tiles → Tiles → Type 0
IsPartAfter id part x old new = (((tile_at old id).area.xlo ≡ x) × (part ≡ id) × (new ≡ old))
    ⊎ ((left : ℕ) × ((tile_at old id).area.xlo <ℤ x) × IsCutAlong id left part x old new)

-- the first area as far as the second at this side
abbrev pub stretched : Side → Rect → Rect → Rect
stretched Above area other = record area { yhi = other.yhi }
stretched Right area other = record area { xhi = other.xhi }
stretched Below area other = record area { ylo = other.ylo }
stretched Left area other = record area { xlo = other.xlo }

-- The second tile, which stands beside the first at this side and is as long there, is joined to it.
pub record IsJoined (side : Side) (id other : ℕ) (old new : Tiles) : Type 0 where
  pub gone : IsTaken new other → ⊥
  pub whole : (tile_at new id).area ≡ stretched side (tile_at old id).area (tile_at old other).area
  pub value : (tile_at new id).value ≡ (tile_at old id).value
  pub others : (k : ℕ) → k ≢ id → k ≢ other → AreAlike (tile_at old k) (tile_at new k)

-- The second tile stands upon the first in the same columns.
abbrev pub IsJoinedUp : ℕ → ℕ → Tiles → Tiles → Type 0
IsJoinedUp lower upper old new = IsJoined Above lower upper old new

-- It stands to the right of the first in the same rows.
abbrev pub IsJoinedRight : ℕ → ℕ → Tiles → Tiles → Type 0
IsJoinedRight left right old new = IsJoined Right left right old new
