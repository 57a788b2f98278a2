-- Area and perimeter of a set of places in a class of tile types.
use Rattle.std.specs.Prelude.{ℕ, ℤ, pos, Bool, not, if◌then◌else◌}
use Rattle.geo_core.specs.FiniteSets.Total.{sum_on, Total, one_if}
use Rattle.layout_model.specs.Places.{Place, neighbours}
use Rattle.layout_model.specs.Layouts.{Layout}

-- what a place counts for the area: 1 where its type is of the class
abbrev pub area_at : (ℕ → Bool) → Layout → Place → ℤ
area_at in_class layout place = one_if (in_class (layout place))

-- what a place of the class counts for the perimeter: its edges to neighbours whose type is not of the class
abbrev pub perimeter_at : (ℕ → Bool) → Layout → Place → ℤ
perimeter_at in_class layout place =
    if in_class (layout place)
    then sum_on (λ neighbour. one_if (not (in_class (layout neighbour)))) (neighbours place)
    else pos 0

-- the number of places of the set whose type is of the class
abbrev pub IsArea : (ℕ → Bool) → Layout → (Place → Type 0) → ℤ → Type 0
IsArea in_class layout Within area = Total Within (area_at in_class layout) area

-- the number of unit edges between a place of the set in the class and a neighbour on its plane that is not of the class
abbrev pub IsPerimeter : (ℕ → Bool) → Layout → (Place → Type 0) → ℤ → Type 0
IsPerimeter in_class layout Within perimeter = Total Within (perimeter_at in_class layout) perimeter
