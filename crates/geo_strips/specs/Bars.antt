-- Bars: stretches of parallel lines, and how bars that touch are joined.
use Rattle.std.specs.Prelude.{◌≡◌, Bool, ◌&&◌, int_le, if◌then◌else◌, List, [], ◌∷◌, map, IsPermutation, IsSorted}
use Rattle.std.specs.Int.{int_max}
use Rattle.std.specs.Ordering.{int_eq, int_cmp, ordering_then}
use Rattle.geo_core.specs.declared.squares.Rect.{Rect}
use Rattle.geo_strips.specs.declared.bars.Bar.{Bar}
use Rattle.geo_strips.specs.declared.strip_lists.Strip.{Strip}
use Rattle.std.specs.declared.cmp.Ordering.{Ordering}

-- The next bar lies on the lines of the bar, and begins no farther than where that ends.
abbrev pub meets : Bar → Bar → Bool
meets bar next = int_eq bar.low next.low && int_eq bar.high next.high && int_le next.from bar.to

-- The bar made as long as to reach the end of the next one too.
abbrev pub reaching : Bar → Bar → Bar
reaching bar next = record { low = bar.low; high = bar.high; from = bar.from; to = int_max bar.to next.to }

-- Bars in order, each joined with those after it that it meets.
abbrev pub joined_from : Bar → List Bar → List Bar
joined_from bar [] = bar ∷ []
joined_from bar (next ∷ rest) = if meets bar next then joined_from (reaching bar next) rest else (bar ∷ joined_from next rest)

-- bars in order, joined
abbrev pub joined : List Bar → List Bar
joined [] = []
joined (bar ∷ rest) = joined_from bar rest

-- Bars are in the order of their lines, and on one line in that of their beginnings.
abbrev pub bar_cmp : Bar → Bar → Ordering
bar_cmp a b = ordering_then (int_cmp a.low b.low) (ordering_then (int_cmp a.high b.high) (ordering_then (int_cmp a.from b.from) (int_cmp a.to b.to)))

-- a bar of columns as a strip
abbrev pub strip_of : Bar → Strip
strip_of bar = record { ylo = bar.from; xlo = bar.low; xhi = bar.high; yhi = bar.to }

-- a strip as a rectangle
abbrev pub rect_of : Strip → Rect
rect_of strip = record { xlo = strip.xlo; ylo = strip.ylo; xhi = strip.xhi; yhi = strip.yhi }

-- Strips are in the order of their lowest rows, and from left to right in one row.
abbrev pub strip_cmp : Strip → Strip → Ordering
strip_cmp a b = ordering_then (int_cmp a.ylo b.ylo) (ordering_then (int_cmp a.xlo b.xlo) (ordering_then (int_cmp a.xhi b.xhi) (int_cmp a.yhi b.yhi)))

-- The areas are what the bars make as strips: each bar joined with those that it meets, in order.
pub record AreStripsOf (bars : List Bar) (areas : List Rect) : Type 0 where
  pub upright : List Bar
  pub upright_moved : IsPermutation bars upright
  pub upright_sorted : IsSorted bar_cmp upright
  pub ordered : List Strip
  pub ordered_moved : IsPermutation (map strip_of (joined upright)) ordered
  pub ordered_sorted : IsSorted strip_cmp ordered
  pub are : areas ≡ map rect_of ordered
