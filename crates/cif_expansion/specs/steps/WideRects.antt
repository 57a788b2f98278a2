-- Rectangles that may lie anywhere.
use Rattle.geo_core.specs.declared.squares.Rect.{Rect}
use Rattle.cif_expansion.specs.declared.placements.WideRect.{WideRect}

-- the rectangle of these edges
abbrev pub area_of : WideRect → Rect
area_of wide = record { xlo = wide.xlo; ylo = wide.ylo; xhi = wide.xhi; yhi = wide.yhi }
