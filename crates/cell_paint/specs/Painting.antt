-- What painting and erasing do to a layout, square by square, and what areas they may go over.
use Rattle.std.specs.Prelude.{◌&&◌, ℕ, ℤ, neg_ℤ, int_le, Bool, if◌then◌else◌, List, [], ◌∷◌, map, fold, Option, Some, None}
use Rattle.std.specs.List.{list_any, range_with_len}
use Rattle.std.specs.Option.{option_or}
use Rattle.geo_core.specs.declared.limits.TheConstants.{PAINT_EDGE}
use Rattle.geo_core.specs.declared.squares.Square.{Square}
use Rattle.geo_core.specs.declared.squares.Rect.{Rect}
use Rattle.geo_core.specs.Areas.{has_square}
use Rattle.geo_core.specs.Covering.{is_covered}
use Rattle.tech_model.specs.declared.limits.TheConstants.{MOST_PLANES}
use Rattle.tech_model.specs.declared.raw.TypeId.{TypeId}
use Rattle.tech_model.specs.declared.raw.RawTech.{RawTech}
use Rattle.tech_model.specs.Types.{type_number}
use Rattle.tech_model.specs.Columns.{type_on, painted_column, erased_column}
use Rattle.layout_model.specs.Places.{Place}
use Rattle.layout_model.specs.Layouts.{Layout}
use Rattle.cell_paint.specs.declared.faults.PaintFault.{PaintFault}
use Rattle.cell_paint.specs.declared.faults.PaintFault.TheVariants.{EmptyRect, OutOfRange}

-- the place of a square on a plane
abbrev pub place_at : ℕ → Square → Place
place_at plane square = record { plane = plane; square = square }

-- the type at each square of one plane
abbrev pub kinds_on : Layout → ℕ → Square → ℕ
kinds_on layout plane square = layout (place_at plane square)

-- the numbers of all planes that there may be
abbrev pub all_planes : List ℕ
all_planes = range_with_len 0 MOST_PLANES

-- the types of one square, a type for each plane
abbrev pub column_at : Layout → Square → List TypeId
column_at layout square = map (λ plane. type_number (kinds_on layout plane square)) all_planes

-- the layout in which a change was made to the columns of some squares
abbrev pub with_columns_where : (List TypeId → List TypeId) → (Square → Bool) → Layout → Layout
with_columns_where change is_changed layout place =
    if is_changed place.square
    then type_on (change (column_at layout place.square)) place.plane
    else layout place

-- the layout in which a change was made to the columns of an area
abbrev pub with_columns : (List TypeId → List TypeId) → Rect → Layout → Layout
with_columns change area layout = with_columns_where change (is_covered area) layout

-- some area of the list covers the square
abbrev pub is_in_some : List Rect → Square → Bool
is_in_some areas square = list_any (λ area. is_covered area square) areas

-- the layout after the layer was painted over the area
abbrev pub with_paint : RawTech → ℕ → Rect → Layout → Layout
with_paint raw layer area layout = with_columns (painted_column raw layer) area layout

-- the layout after the layer was painted over each of the areas, in their order
abbrev pub with_all_painted : RawTech → ℕ → List Rect → Layout → Layout
with_all_painted raw layer areas layout = fold (λ painted area. with_paint raw layer area painted) layout areas

-- the layout after the layer was erased from the area
abbrev pub with_erased : RawTech → ℕ → Rect → Layout → Layout
with_erased raw layer area layout = with_columns (erased_column raw layer) area layout

-- paint may have the coordinate: it is at most the edge of paint in absolute value
abbrev pub is_coordinate : ℤ → Bool
is_coordinate z = int_le (neg_ℤ PAINT_EDGE) z && int_le z PAINT_EDGE

-- paint may go over the rectangle
abbrev pub is_in_range : Rect → Bool
is_in_range area = is_coordinate area.xlo && is_coordinate area.ylo && is_coordinate area.xhi && is_coordinate area.yhi

-- all squares that may have paint
abbrev pub paint_range : Rect
paint_range = record { xlo = neg_ℤ PAINT_EDGE; ylo = neg_ℤ PAINT_EDGE; xhi = PAINT_EDGE; yhi = PAINT_EDGE }

-- why paint may not go over the area: it has no square, or else it goes past the range
abbrev pub area_fault : Rect → Option PaintFault
area_fault area = if has_square area then (if is_in_range area then None else Some OutOfRange) else Some EmptyRect

-- what is wrong with the first of the areas that paint may not go over
abbrev pub first_area_fault : List Rect → Option PaintFault
first_area_fault [] = None
first_area_fault (area ∷ areas) = option_or (area_fault area) (first_area_fault areas)
