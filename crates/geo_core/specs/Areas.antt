-- Rectangles within bounds, rectangles that lie apart, and what two have in common.
use Rattle.std.specs.Prelude.{◌&&◌, Bool, ℤ, pos, neg_ℤ, ◌+ℤ◌, ◌-ℤ◌, ◌<ℤ◌, ◌≤ℤ◌, int_lt}
use Rattle.std.specs.Int.{int_max, int_min}
use Rattle.geo_core.specs.declared.limits.TheConstants.{PLANE_EDGE}
use Rattle.geo_core.specs.declared.squares.Square.{Square}
use Rattle.geo_core.specs.declared.squares.Rect.{Rect}
use Rattle.geo_core.specs.Covering.{Covers}

-- no square lies in both rectangles
abbrev pub AreDisjoint : Rect → Rect → Type 0
AreDisjoint a b = (square : Square) → Covers a square → Covers b square → ⊥

-- z lies between the edges of planes
abbrev pub IsSmall : ℤ → Type 0
IsSmall z = (neg_ℤ PLANE_EDGE <ℤ z) × (z <ℤ PLANE_EDGE)

-- the test of a rectangle that has a square
abbrev pub has_square : Rect → Bool
has_square area = int_lt area.xlo area.xhi && int_lt area.ylo area.yhi

-- each bound of the rectangle lies between the edges of planes
pub record IsNear (area : Rect) : Type 0 where
  pub xlo : IsSmall area.xlo
  pub ylo : IsSmall area.ylo
  pub xhi : IsSmall area.xhi
  pub yhi : IsSmall area.yhi

-- the rectangle of the squares that two rectangles have in common
abbrev pub common_rect : Rect → Rect → Rect
common_rect a b = record { xlo = int_max a.xlo b.xlo; ylo = int_max a.ylo b.ylo; xhi = int_min a.xhi b.xhi; yhi = int_min a.yhi b.yhi }

-- the smallest rectangle that goes round both
abbrev pub joined_rect : Rect → Rect → Rect
joined_rect a b = record { xlo = int_min a.xlo b.xlo; ylo = int_min a.ylo b.ylo; xhi = int_max a.xhi b.xhi; yhi = int_max a.yhi b.yhi }

-- the rectangle, grown by one on every side
abbrev pub widened : Rect → Rect
widened area = record { xlo = area.xlo -ℤ pos 1; ylo = area.ylo -ℤ pos 1; xhi = area.xhi +ℤ pos 1; yhi = area.yhi +ℤ pos 1 }

-- the lower left square of a rectangle
abbrev pub corner_of : Rect → Square
corner_of area = record { x = area.xlo; y = area.ylo }

-- The first rectangle goes nowhere past an edge of the second.
pub record LiesWithin (core area : Rect) : Type 0 where
  pub right_of_xlo : area.xlo ≤ℤ core.xlo
  pub above_ylo : area.ylo ≤ℤ core.ylo
  pub left_of_xhi : core.xhi ≤ℤ area.xhi
  pub below_yhi : core.yhi ≤ℤ area.yhi
