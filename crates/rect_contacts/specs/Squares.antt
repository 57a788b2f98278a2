-- The squares of rectangles, and the edges of these squares.
use Rattle.std.specs.Prelude.{Bool, not, ℤ, pos, ◌+ℤ◌, ◌-ℤ◌, ◌*ℤ◌, List, map}
use Rattle.std.specs.List.{list_any}
use Rattle.geo_core.specs.declared.squares.Square.{Square}
use Rattle.geo_core.specs.declared.squares.Rect.{Rect}
use Rattle.geo_core.specs.Covering.{is_covered}
use Rattle.geo_core.specs.Neighbours.{edge_neighbours}
use Rattle.geo_core.specs.FiniteSets.Total.{sum_on, one_if}
use Rattle.geo_core.specs.FiniteSets.Range.{integer_range, pairs_of}

-- the squares that a rectangle covers, each once
abbrev pub squares_of : Rect → List Square
squares_of area =
    map (λ p. record { x = p.0; y = p.1 }) (pairs_of (integer_range area.xlo area.xhi) (integer_range area.ylo area.yhi))

-- the area and the perimeter of a rectangle that covers some square
abbrev pub area_of : Rect → ℤ
area_of area = (area.xhi -ℤ area.xlo) *ℤ (area.yhi -ℤ area.ylo)

-- the length of its four edges
abbrev pub perimeter_of : Rect → ℤ
perimeter_of area = pos 2 *ℤ ((area.xhi -ℤ area.xlo) +ℤ (area.yhi -ℤ area.ylo))

-- how many edges lead from a square of the first rectangle to a square of the second
abbrev pub edges_between : Rect → Rect → ℤ
edges_between a b = sum_on (λ square. sum_on (λ other. one_if (is_covered b other)) (edge_neighbours square)) (squares_of a)

-- whether one of the rectangles covers the square
abbrev pub is_covered_by_any : List Rect → Square → Bool
is_covered_by_any rects square = list_any (λ area. is_covered area square) rects

-- how many edges lead from a square of the rectangle to a square that none of the rectangles covers
abbrev pub open_edges : List Rect → Rect → ℤ
open_edges rects a = sum_on (λ square. sum_on (λ other. one_if (not (is_covered_by_any rects other))) (edge_neighbours square)) (squares_of a)
