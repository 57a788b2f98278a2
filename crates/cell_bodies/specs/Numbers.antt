-- The forms of the numbers of a cell: where its uses and its labels stand, and its scale.
use Rattle.std.specs.Prelude.{◌&&◌, ◌*◌, ◌^◌, nat_le, ℕ, ℤ, pos, neg_ℤ, int_le, int_lt, Bool, false, List, [], ◌∷◌}
use Rattle.geo_core.specs.declared.grids.Grid.{Grid}
use Rattle.geo_core.specs.declared.limits.TheConstants.{MOST_ELEMENTS}
use Rattle.geo_core.specs.declared.squares.Rect.{Rect}
use Rattle.geo_core.specs.Elements.{indices}
use Rattle.geo_core.specs.Orientation.{is_orientation}
use Rattle.cell_paint.specs.Painting.{is_in_range}
use Rattle.cell_bodies.specs.declared.limits.TheConstants.{DISPLACEMENT_EDGE, LAST_POSITION, LARGEST_SCALE}

-- the displacement of a use and the separation of elements are at most their edge in absolute value
abbrev pub is_displacement : ℤ → Bool
is_displacement z = int_le (neg_ℤ DISPLACEMENT_EDGE) z && int_le z DISPLACEMENT_EDGE

abbrev pub are_displacements : ℤ → ℤ → Bool
are_displacements x y = is_displacement x && is_displacement y

-- an index of a grid is a number of 32 bits with sign
abbrev pub is_index : ℤ → Bool
is_index z = int_le (neg_ℤ (pos (2 ^ 31))) z && int_lt z (pos (2 ^ 31))

abbrev pub are_indices : ℤ → ℤ → ℤ → ℤ → Bool
are_indices xlo xhi ylo yhi = is_index xlo && is_index xhi && is_index ylo && is_index yhi

-- there are no more elements between these ends of the two indices than there may be
abbrev pub are_few_elements : ℤ → ℤ → ℤ → ℤ → Bool
are_few_elements xlo xhi ylo yhi = nat_le (indices xlo xhi * indices ylo yhi) MOST_ELEMENTS

-- two indices that run between these ends
unfoldable pub are_elements : ℤ → ℤ → ℤ → ℤ → Bool
are_elements xlo xhi ylo yhi = are_indices xlo xhi ylo yhi && are_few_elements xlo xhi ylo yhi

-- a grid that a use may have
abbrev pub is_grid : Grid → Bool
is_grid grid = are_elements grid.xlo grid.xhi grid.ylo grid.yhi && are_displacements grid.xsep grid.ysep

-- six numbers by which a use may stand: an orientation and two displacements
abbrev pub is_placing : List ℤ → Bool
is_placing (a ∷ b ∷ c ∷ d ∷ e ∷ f ∷ []) = are_displacements c f && is_orientation a b d e
is_placing _ = false

-- the number of a position: 0 is the centre, 1 is north, and the others follow clockwise
abbrev pub is_position : ℕ → Bool
is_position position = nat_le position LAST_POSITION

-- no edge of the rectangle goes past the one on its other side: it may be a line or a point
abbrev pub has_sides : Rect → Bool
has_sides area = int_le area.xlo area.xhi && int_le area.ylo area.yhi

-- a rectangle that a label may touch
abbrev pub is_label_area : Rect → Bool
is_label_area area = has_sides area && is_in_range area

-- one of the two numbers of a scale
abbrev pub is_scale_number : ℕ → Bool
is_scale_number n = nat_le 1 n && nat_le n LARGEST_SCALE
