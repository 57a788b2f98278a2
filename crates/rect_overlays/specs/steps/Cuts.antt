-- Cutting an area in two.
use Rattle.std.specs.Prelude.{◌&&◌, Bool, ◌<ℤ◌, int_lt}
use Rattle.geo_core.specs.declared.squares.Rect.{Rect}
use Rattle.rect_overlays.specs.declared.cuts.Cut.{Cut}
use Rattle.rect_overlays.specs.declared.cuts.Cut.TheVariants.{Column, Row}

-- the part of the area on the left of the cut or below it
abbrev pub low_half : Rect → Cut → Rect
low_half area (Column x) = record { xlo = area.xlo; ylo = area.ylo; xhi = x; yhi = area.yhi }
low_half area (Row y) = record { xlo = area.xlo; ylo = area.ylo; xhi = area.xhi; yhi = y }

-- the part of the area on the right of the cut or above it
abbrev pub high_half : Rect → Cut → Rect
high_half area (Column x) = record { xlo = x; ylo = area.ylo; xhi = area.xhi; yhi = area.yhi }
high_half area (Row y) = record { xlo = area.xlo; ylo = y; xhi = area.xhi; yhi = area.yhi }

-- The cut runs through the inside of the area.
abbrev pub IsInside : Rect → Cut → Type 0
IsInside area (Column x) = (area.xlo <ℤ x) × (x <ℤ area.xhi)
IsInside area (Row y) = (area.ylo <ℤ y) × (y <ℤ area.yhi)

-- the test of it
abbrev pub is_inside : Rect → Cut → Bool
is_inside area (Column x) = int_lt area.xlo x && int_lt x area.xhi
is_inside area (Row y) = int_lt area.ylo y && int_lt y area.yhi

-- whether the rectangle goes to the left of the cut or below it
abbrev pub is_past_low : Cut → Rect → Bool
is_past_low (Column x) rect = int_lt rect.xlo x
is_past_low (Row y) rect = int_lt rect.ylo y

-- whether the rectangle goes to the right of the cut or above it
abbrev pub is_past_high : Cut → Rect → Bool
is_past_high (Column x) rect = int_lt x rect.xhi
is_past_high (Row y) rect = int_lt y rect.yhi
