-- Boxes of squares, and the squares at which a set is too narrow, leaves too narrow a gap, or comes too near another.
use Rattle.std.specs.Prelude.{ℤ, ◌+ℤ◌, ◌-ℤ◌, ◌≤ℤ◌}
use Rattle.geo_core.specs.declared.squares.Square.{Square}
use Rattle.geo_core.specs.declared.squares.Rect.{Rect}
use Rattle.geo_core.specs.Covering.{Covers}

-- A box of d: d by d squares, of which the corner is the lowest on the left.
abbrev pub box_at : ℤ → Square → Rect
box_at d corner = record { xlo = corner.x; ylo = corner.y; xhi = corner.x +ℤ d; yhi = corner.y +ℤ d }

-- The square lies in a box of d whose squares are all of the set.
pub record LiesInBox (S : Square → Type 0) (d : ℤ) (square : Square) : Type 0 where
  pub corner : Square
  pub covers : Covers (box_at d corner) square
  pub within : (other : Square) → Covers (box_at d corner) other → S other

-- it lies in none
abbrev pub LiesInNoBox : (Square → Type 0) → ℤ → Square → Type 0
LiesInNoBox S d square = LiesInBox S d square → ⊥

-- the squares that are not of the set
abbrev pub IsOutside : (Square → Type 0) → Square → Type 0
IsOutside S square = S square → ⊥

-- A square of the set that lies in no box of d whose squares are all of the set.
abbrev pub IsTooNarrow : (Square → Type 0) → ℤ → Square → Type 0
IsTooNarrow S d square = S square × LiesInNoBox S d square

-- A square outside the set that lies in no box of d whose squares are all outside the set.
abbrev pub IsTooTight : (Square → Type 0) → ℤ → Square → Type 0
IsTooTight S d square = IsOutside S square × LiesInNoBox (IsOutside S) d square

-- The squares differ by at most d in x and by at most d in y.
pub record IsNearBy (d : ℤ) (square other : Square) : Type 0 where
  pub left : (square.x -ℤ d) ≤ℤ other.x
  pub right : other.x ≤ℤ (square.x +ℤ d)
  pub below : (square.y -ℤ d) ≤ℤ other.y
  pub above : other.y ≤ℤ (square.y +ℤ d)

-- A square of the first set from which some square of the second differs by at most d in x and by at most d in y.
abbrev pub IsTooNear : (Square → Type 0) → (Square → Type 0) → ℤ → Square → Type 0
IsTooNear First Second d square = First square × ((other : Square) × (Second other × IsNearBy d square other))
