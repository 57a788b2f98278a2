-- Positions in a list of rectangles, and places of those that have squares.
use Rattle.std.specs.Prelude.{ℕ, ◌<◌, pos, Bool, List, length, map, slice_index_or}
use Rattle.geo_core.specs.FiniteSets.Lists.{Lists}
use Rattle.geo_core.specs.declared.squares.Rect.{Rect}
use Rattle.geo_core.specs.Areas.{common_rect, has_square}
use Rattle.geo_core.specs.Covering.{IsProper}
use Rattle.rect_trees.specs.declared.places.Place.{Place}

-- a rectangle without a square
abbrev pub no_rect : Rect
no_rect = record { xlo = pos 0; ylo = pos 0; xhi = pos 0; yhi = pos 0 }

-- the rectangle at a position of a list, and one without a square past its end
abbrev pub rect_at : List Rect → ℕ → Rect
rect_at rects position = slice_index_or rects position no_rect

-- the rectangle at this position of the list has a square in the area
abbrev pub meets_at : List Rect → Rect → ℕ → Bool
meets_at rects area position = has_square (common_rect (rect_at rects position) area)

-- The rectangle at this position of the list has a square.
pub record HasSquareAt (rects : List Rect) (position : ℕ) : Type 0 where
  pub within : position < length rects
  pub proper : IsProper (rect_at rects position)

-- the position of a place
abbrev pub position_of : Place → ℕ
position_of place = place.position

-- These are places of the rectangles that have squares, each once.
pub record ArePlaces (rects : List Rect) (places : List Place) : Type 0 where
  pub are : Lists (HasSquareAt rects) (map position_of places)
