-- Hulls: the smallest rectangles that go round the boxes of cells.
use Rattle.std.specs.Prelude.{◌≤ℤ◌, ℤ, pos, neg_ℤ, ◌+ℤ◌, ◌-ℤ◌, ◌*ℤ◌, List, [], ◌∷◌, map, Option, Some, None}
use Rattle.std.specs.Int.{int_min, int_max}
use Rattle.std.specs.Int.RustNames.{unsigned_abs}
use Rattle.geo_core.specs.declared.grids.Grid.{Grid}
use Rattle.geo_core.specs.declared.limits.TheConstants.{PAINT_EDGE}
use Rattle.geo_core.specs.declared.squares.Rect.{Rect}
use Rattle.geo_core.specs.Areas.{joined_rect, LiesWithin}
use Rattle.geo_core.specs.Images.{rect_image}
use Rattle.cell_tree.specs.declared.use_tables.UseBody.{UseBody}
use Rattle.cell_tree.specs.Uses.{displacements}

-- the rectangle, moved to the right and upward
abbrev pub displaced : Rect → ℤ × ℤ → Rect
displaced area step =
    record { xlo = area.xlo +ℤ step.0; ylo = area.ylo +ℤ step.1; xhi = area.xhi +ℤ step.0; yhi = area.yhi +ℤ step.1 }

-- the hull of a child in each element of a use
abbrev pub element_hulls : UseBody → Option Rect → List Rect
element_hulls used None = []
element_hulls used (Some hull) = map (λ step. rect_image used.placed (displaced hull step)) (displacements used.grid)

-- the smallest rectangle that goes round both, of which each may be missing
abbrev pub round_both : Option Rect → Option Rect → Option Rect
round_both None b = b
round_both (Some a) None = Some a
round_both (Some a) (Some b) = Some (joined_rect a b)

-- the smallest rectangle that goes round all, and none where there are none
abbrev pub round_all : List Rect → Option Rect
round_all [] = None
round_all (area ∷ rest) = round_both (Some area) (round_all rest)

-- a coordinate that paint may have
pub record IsPaintable (z : ℤ) : Type 0 where
  pub low : neg_ℤ PAINT_EDGE ≤ℤ z
  pub high : z ≤ℤ PAINT_EDGE

-- The rectangle lies within the range of paint.
pub record SpansInRange (area : Rect) : Type 0 where
  pub xlo : IsPaintable area.xlo
  pub ylo : IsPaintable area.ylo
  pub xhi : IsPaintable area.xhi
  pub yhi : IsPaintable area.yhi

-- The box lies within the range of paint, and is not turned inside out.
pub record IsLawfulBox (area : Rect) : Type 0 where
  pub wide : area.xlo ≤ℤ area.xhi
  pub high : area.ylo ≤ℤ area.yhi
  pub spans : SpansInRange area

-- how far the last element of a grid is displaced along an index from one end to the other
abbrev pub way_of : ℤ → ℤ → ℤ → ℤ
way_of from to step = pos (unsigned_abs (to -ℤ from)) *ℤ step

-- the smallest rectangle round a child in all elements of a grid, in the child's coordinates
abbrev pub spread_area : Grid → Rect → Rect
spread_area grid area =
    let across = way_of grid.xlo grid.xhi grid.xsep in
    let up = way_of grid.ylo grid.yhi grid.ysep in
    record {
      xlo = area.xlo +ℤ int_min across (pos 0);
      ylo = area.ylo +ℤ int_min up (pos 0);
      xhi = area.xhi +ℤ int_max across (pos 0);
      yhi = area.yhi +ℤ int_max up (pos 0);
    }

-- The first box is missing, or lies inside the second.
abbrev pub IsInside : Option Rect → Option Rect → Type 0
IsInside None outer = Unit {0}
IsInside (Some inner) None = ⊥
IsInside (Some inner) (Some outer) = LiesWithin inner outer
