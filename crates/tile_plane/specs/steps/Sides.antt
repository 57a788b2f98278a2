-- Sides of tiles: what lies beside them, and walks along them.
use Rattle.std.specs.Prelude.{◌≡◌, ℕ, ℤ, pos, ◌-ℤ◌, ◌≤ℤ◌, ◌<ℤ◌}
use Rattle.geo_core.specs.declared.squares.Square.{Square}
use Rattle.geo_core.specs.declared.squares.Rect.{Rect}
use Rattle.geo_core.specs.Planes.{plane_range}
use Rattle.tile_plane.specs.declared.sides.Side.{Side}
use Rattle.tile_plane.specs.declared.sides.Side.TheVariants.{Above, Right, Below, Left}
use Rattle.tile_plane.specs.Tiles.{Tiles, tile_at, IsTaken}
use Rattle.tile_plane.specs.Walks.{square_at}
use Rattle.tile_plane.specs.steps.Cuts.{opposite}

-- where a walk along the side goes, which begins where the stitch at the side leads to
abbrev pub along : Side → Side
along Above = Left
along Right = Below
along Below = Right
along Left = Above

-- the range goes on beside this side of the area
abbrev pub GoesOn : Side → Rect → Type 0
GoesOn Above area = area.yhi <ℤ plane_range.yhi
GoesOn Right area = area.xhi <ℤ plane_range.xhi
GoesOn Below area = plane_range.ylo <ℤ area.ylo
GoesOn Left area = plane_range.xlo <ℤ area.xlo

-- the range ends there
abbrev pub IsLast : Side → Rect → Type 0
IsLast Above area = plane_range.yhi ≤ℤ area.yhi
IsLast Right area = plane_range.xhi ≤ℤ area.xhi
IsLast Below area = area.ylo ≤ℤ plane_range.ylo
IsLast Left area = area.xlo ≤ℤ plane_range.xlo

-- the side has this row or column
abbrev pub HasLine : Side → Rect → ℤ → Type 0
HasLine Above area x = (area.xlo ≤ℤ x) × (x <ℤ area.xhi)
HasLine Right area y = (area.ylo ≤ℤ y) × (y <ℤ area.yhi)
HasLine Below area x = (area.xlo ≤ℤ x) × (x <ℤ area.xhi)
HasLine Left area y = (area.ylo ≤ℤ y) × (y <ℤ area.yhi)

-- the square beside the side in a row or a column
abbrev pub square_beside : Side → Rect → ℤ → Square
square_beside Above area x = square_at x area.yhi
square_beside Right area y = square_at area.xhi y
square_beside Below area x = square_at x (area.ylo -ℤ pos 1)
square_beside Left area y = square_at (area.xlo -ℤ pos 1) y

-- the first row or column of the way along an area
abbrev pub first_of : Side → Rect → ℤ
first_of Above area = area.xhi -ℤ pos 1
first_of Right area = area.yhi -ℤ pos 1
first_of Below area = area.xlo
first_of Left area = area.ylo

-- a walk along the side that is at a tile of this area has not come to the row or column
abbrev pub IsShort : Side → Rect → ℤ → Type 0
IsShort Above area x = x <ℤ area.xlo
IsShort Right area y = y <ℤ area.ylo
IsShort Below area x = area.xhi ≤ℤ x
IsShort Left area y = area.yhi ≤ℤ y

-- where an area ends at the side
abbrev pub end_of : Side → Rect → ℤ
end_of Above area = area.yhi
end_of Right area = area.xhi
end_of Below area = area.ylo
end_of Left area = area.xlo

-- on a walk along the side the first comes before the second
abbrev pub ComesBefore : Side → ℤ → ℤ → Type 0
ComesBefore Above c d = d <ℤ c
ComesBefore Right c d = d <ℤ c
ComesBefore Below c d = c <ℤ d
ComesBefore Left c d = c <ℤ d

-- it is the upper or the right side
abbrev pub IsUpward : Side → Type 0
IsUpward Above = Unit {0}
IsUpward Right = Unit {0}
IsUpward Below = ⊥
IsUpward Left = ⊥

-- The second tile stands beside the first at this side and is as long there.
pub record StandsAt (side : Side) (tiles : Tiles) (id other : ℕ) : Type 0 where
  pub taken : IsTaken tiles id
  pub other_taken : IsTaken tiles other
  pub meet : end_of (opposite side) (tile_at tiles other).area ≡ end_of side (tile_at tiles id).area
  pub low : end_of (along side) (tile_at tiles other).area ≡ end_of (along side) (tile_at tiles id).area
  pub high : end_of (opposite (along side)) (tile_at tiles other).area ≡ end_of (opposite (along side)) (tile_at tiles id).area
