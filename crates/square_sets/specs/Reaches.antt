-- Sets of squares that are grown and shrunk, and the rectangles of which they are made.
use Rattle.std.specs.Prelude.{ℤ, pos, neg_ℤ, ◌+ℤ◌, ◌-ℤ◌, ◌≤ℤ◌}
use Rattle.geo_core.specs.declared.squares.Square.{Square}
use Rattle.geo_core.specs.declared.squares.Rect.{Rect}
use Rattle.geo_core.specs.Areas.{LiesWithin}
use Rattle.square_sets.specs.declared.limits.TheConstants.{MOST_REACH}

-- The two sets have the same squares.
pub record AreSameSquares (S T : Square → Type 0) : Type 0 where
  pub to : (square : Square) → S square → T square
  pub back : (square : Square) → T square → S square

-- no bound of the rectangle is past the edge in absolute value
abbrev pub IsBounded : ℤ → Rect → Type 0
IsBounded edge area = LiesWithin area (record { xlo = neg_ℤ edge; ylo = neg_ℤ edge; xhi = edge; yhi = edge })

-- how far a square may reach
abbrev pub IsReach : ℤ → Type 0
IsReach z = (pos 0 ≤ℤ z) × (z ≤ℤ MOST_REACH)

-- A square reaches another: that lies at most so far to the left of it and below it, and at most so far to the right of it and above it.
pub record Reaches (low high : ℤ) (square other : Square) : Type 0 where
  pub left : (square.x -ℤ low) ≤ℤ other.x
  pub right : other.x ≤ℤ (square.x +ℤ high)
  pub below : (square.y -ℤ low) ≤ℤ other.y
  pub above : other.y ≤ℤ (square.y +ℤ high)

-- some square of the set reaches the square
abbrev pub IsDilated : ℤ → ℤ → (Square → Type 0) → Square → Type 0
IsDilated low high S square = (other : Square) × (S other × Reaches low high other square)

-- each square that the square reaches is of the set
abbrev pub IsEroded : ℤ → ℤ → (Square → Type 0) → Square → Type 0
IsEroded low high S square = (other : Square) → Reaches low high square other → S other

-- the rectangle of what its squares reach
abbrev pub grown : ℤ → ℤ → Rect → Rect
grown low high area = record { xlo = area.xlo -ℤ low; ylo = area.ylo -ℤ low; xhi = area.xhi +ℤ high; yhi = area.yhi +ℤ high }

-- the rectangle less so many columns on the left and on the right, with rows for columns
abbrev pub upright_core : ℤ → ℤ → Rect → Rect
upright_core low high area = record { xlo = area.ylo; ylo = area.xlo +ℤ low; xhi = area.yhi; yhi = area.xhi -ℤ high }
