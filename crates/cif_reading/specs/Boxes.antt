-- Boxes as they are said: by length and width, and by the centre.
use Rattle.std.specs.Prelude.{◌&&◌, ◌||◌, ℤ, pos, ◌+ℤ◌, ◌-ℤ◌, int_lt, Bool}
use Rattle.geo_core.specs.declared.squares.Rect.{Rect}
use Rattle.cif_forms.specs.declared.limits.TheConstants.{HIGHEST, LOWEST}
use Rattle.cif_reading.specs.declared.scales.Scale.{Scale}
use Rattle.cif_reading.specs.Scales.{is_whole, scaled}

-- a number of 32 bits with sign
abbrev pub is_in_range : ℤ → Bool
is_in_range z = int_lt LOWEST z && int_lt z HIGHEST

-- An edge lies half a side from the centre. So twice an edge is counted, and divided by twice as much.
abbrev pub halved : Scale → Scale
halved scale = record scale { down = scale.down +ℤ scale.down }

-- twice the two edges of a side with this centre
abbrev pub low_edge : ℤ → ℤ → ℤ
low_edge centre size = (centre +ℤ centre) -ℤ size

abbrev pub high_edge : ℤ → ℤ → ℤ
high_edge centre size = (centre +ℤ centre) +ℤ size

abbrev pub edges_are_whole : Scale → ℤ → ℤ → Bool
edges_are_whole scale centre size = is_whole (halved scale) (low_edge centre size) && is_whole (halved scale) (high_edge centre size)

-- a side is below 1
unfoldable pub has_short_side : ℤ → ℤ → Bool
has_short_side l w = int_lt l (pos 1) || int_lt w (pos 1)

-- all numbers have 32 bits
unfoldable pub area_is_in_range : ℤ → ℤ → ℤ → ℤ → Bool
area_is_in_range l w x y = is_in_range l && is_in_range w && is_in_range x && is_in_range y

-- all edges are whole when they are scaled
unfoldable pub area_is_whole : Scale → ℤ → ℤ → ℤ → ℤ → Bool
area_is_whole scale l w x y = edges_are_whole scale x l && edges_are_whole scale y w

-- the box, its edges scaled
abbrev pub area_said : Scale → ℤ → ℤ → ℤ → ℤ → Rect
area_said scale l w x y = record {
  xlo = scaled (halved scale) (low_edge x l);
  ylo = scaled (halved scale) (low_edge y w);
  xhi = scaled (halved scale) (high_edge x l);
  yhi = scaled (halved scale) (high_edge y w);
}
