-- Which squares a rectangle covers, or those of a list.
use Rattle.std.specs.Prelude.{◌≡◌, ◌≢◌, ℕ, Bool, ◌&&◌, int_le, int_lt, ◌≤ℤ◌, ◌<ℤ◌, List, slice_get, Some}
use Rattle.geo_core.specs.declared.squares.Square.{Square}
use Rattle.geo_core.specs.declared.squares.Rect.{Rect}

-- The square lies in the rectangle: the low edges belong to it and the high edges do not.
pub record Covers (area : Rect) (square : Square) : Type 0 where
  pub right_of_xlo : area.xlo ≤ℤ square.x
  pub left_of_xhi : square.x <ℤ area.xhi
  pub above_ylo : area.ylo ≤ℤ square.y
  pub below_yhi : square.y <ℤ area.yhi

-- The test of it.
abbrev pub is_covered : Rect → Square → Bool
is_covered area square =
    int_le area.xlo square.x && int_lt square.x area.xhi && int_le area.ylo square.y && int_lt square.y area.yhi

-- The rectangle covers some square.
pub record IsProper (area : Rect) : Type 0 where
  pub wide : area.xlo <ℤ area.xhi
  pub high : area.ylo <ℤ area.yhi

-- The rectangle with this index in the list covers the square.
pub record CoversAt (rects : List Rect) (index : ℕ) (square : Square) : Type 0 where
  pub area : Rect
  pub there : slice_get rects index ≡ Some area
  pub covers : Covers area square

-- Two rectangles of the list cover the square. Two equal ones at different places are two.
pub record IsInTwo (rects : List Rect) (square : Square) : Type 0 where
  pub first : ℕ
  pub second : ℕ
  pub differ : first ≢ second
  pub in_first : CoversAt rects first square
  pub in_second : CoversAt rects second square
