-- Rectangles of a list.
use Rattle.std.specs.Prelude.{ℕ, pos, List, length, slice_index_or}
use Rattle.std.specs.List.{range_with_len}
use Rattle.geo_core.specs.declared.squares.Rect.{Rect}

-- a rectangle without a square
abbrev pub no_rect : Rect
no_rect = record { xlo = pos 0; ylo = pos 0; xhi = pos 0; yhi = pos 0 }

-- the rectangle at a place of a list, and one without a square past its end
abbrev pub rect_at : List Rect → ℕ → Rect
rect_at rects place = slice_index_or rects place no_rect

-- the places of a list, from 0 on
abbrev pub places_of : List Rect → List ℕ
places_of rects = range_with_len 0 (length rects)
