-- The numbers of a mag text. That a word is no number tells that its line is of no form; that it is out of range counts only then.
use Rattle.std.specs.Prelude.{◌&&◌, ℕ, ℤ, pos, Bool, true, false, if◌then◌else◌, List, [], ◌∷◌, Option, Some, None, Result, Ok, Err}
use Rattle.text_scan.specs.declared.numeral.NumFault.{NumFault}
use Rattle.text_scan.specs.declared.numeral.NumFault.TheVariants.{Empty, Digit, Range as TooWide}
use Rattle.text_form.specs.SaidLines.{and_then}
use Rattle.geo_core.specs.declared.grids.Grid.{Grid}
use Rattle.geo_core.specs.declared.squares.Rect.{Rect}
use Rattle.geo_core.specs.Areas.{has_square}
use Rattle.geo_core.specs.Orientation.{is_orientation}
use Rattle.cell_library.specs.CellPaint.Painting.{is_coordinate}
use Rattle.cell_library.specs.CellBodies.Numbers.{is_displacement, is_index, are_few_elements, is_position, has_sides, is_scale_number}
use Rattle.mag_text.specs.declared.faults.MagFault.{MagFault}
use Rattle.mag_text.specs.declared.faults.MagFault.TheVariants.{EmptyRect, Range, Transform}

-- the word is decimal, of whatever size
abbrev pub is_decimal : Result ℤ NumFault → Bool
is_decimal (Ok z) = true
is_decimal (Err TooWide) = true
is_decimal (Err Empty) = false
is_decimal (Err Digit) = false

-- four words, each as what it gives as a number of 64 bits, and six
abbrev pub Four : Type 0
Four = Result ℤ NumFault × Result ℤ NumFault × Result ℤ NumFault × Result ℤ NumFault

abbrev pub Six : Type 0
Six = Result ℤ NumFault × Result ℤ NumFault × Result ℤ NumFault × Result ℤ NumFault × Result ℤ NumFault × Result ℤ NumFault

abbrev pub are_four_decimal : Four → Bool
are_four_decimal words = is_decimal words.0 && is_decimal words.1 && is_decimal words.2 && is_decimal words.3

abbrev pub are_six_decimal : Six → Bool
are_six_decimal words =
    is_decimal words.0 && is_decimal words.1 && is_decimal words.2 && is_decimal words.3 && is_decimal words.4 && is_decimal words.5

-- a number of 64 bits
abbrev pub number_in : Result ℤ NumFault → Result ℤ MagFault
number_in (Ok z) = Ok z
number_in (Err fault) = Err Range

-- a number that is in its range
abbrev pub if_in : Bool → ℤ → Result ℤ MagFault
if_in within z = if within then Ok z else Err Range

-- a coordinate of paint or of a label
abbrev pub coordinate_in : Result ℤ NumFault → Result ℤ MagFault
coordinate_in read = and_then (number_in read) (λ z. if_in (is_coordinate z) z)

-- the displacement of a use, or the separation of the elements of a grid
abbrev pub displacement_in : Result ℤ NumFault → Result ℤ MagFault
displacement_in read = and_then (number_in read) (λ z. if_in (is_displacement z) z)

-- an index of a grid
abbrev pub index_in : Result ℤ NumFault → Result ℤ MagFault
index_in read = and_then (number_in read) (λ z. if_in (is_index z) z)

-- one of the two numbers of a scale
abbrev pub if_scale_number : ℤ → Result ℕ MagFault
if_scale_number (pos n) = if is_scale_number n then Ok n else Err Range
if_scale_number _ = Err Range

abbrev pub scale_number_in : Result ℤ NumFault → Result ℕ MagFault
scale_number_in read = and_then (number_in read) if_scale_number

abbrev pub scale_in : Result ℤ NumFault → Result ℤ NumFault → Result (ℕ × ℕ) MagFault
scale_in n d = and_then (scale_number_in n) (λ n. and_then (scale_number_in d) (λ d. Ok (n, d)))

-- a position, where the number is that of one
abbrev pub if_position : ℤ → Option ℕ
if_position (pos n) = if is_position n then Some n else None
if_position _ = None

abbrev pub position_in : Result ℤ NumFault → Option ℕ
position_in (Ok z) = if_position z
position_in (Err fault) = None

-- the rectangle with these edges, left, lower, right and upper, which are coordinates
abbrev pub rect_in : Four → Result Rect MagFault
rect_in words =
    and_then (coordinate_in words.0) (λ xlo.
    and_then (coordinate_in words.1) (λ ylo.
    and_then (coordinate_in words.2) (λ xhi.
    and_then (coordinate_in words.3) (λ yhi.
    Ok (record { xlo = xlo; ylo = ylo; xhi = xhi; yhi = yhi })))))

-- the rectangle of paint has a square
abbrev pub if_painted : Rect → Result Rect MagFault
if_painted area = if has_square area then Ok area else Err EmptyRect

-- that of a label may be a line or a point
abbrev pub if_touched : Rect → Result Rect MagFault
if_touched area = if has_sides area then Ok area else Err EmptyRect

-- the grid has no more elements than one may have
abbrev pub if_few : Grid → Result Grid MagFault
if_few grid = if are_few_elements grid.xlo grid.xhi grid.ylo grid.yhi then Ok grid else Err Range

abbrev pub grid_in : Six → Result Grid MagFault
grid_in words =
    and_then (index_in words.0) (λ xlo.
    and_then (index_in words.1) (λ xhi.
    and_then (displacement_in words.2) (λ xsep.
    and_then (index_in words.3) (λ ylo.
    and_then (index_in words.4) (λ yhi.
    and_then (displacement_in words.5) (λ ysep.
    if_few (record { xlo = xlo; xhi = xhi; xsep = xsep; ylo = ylo; yhi = yhi; ysep = ysep })))))))

-- the factors are those of an orientation
abbrev pub if_orientation : ℤ → ℤ → ℤ → ℤ → ℤ → ℤ → Result (List ℤ) MagFault
if_orientation a b c d e f = if is_orientation a b d e then Ok (a ∷ b ∷ c ∷ d ∷ e ∷ f ∷ []) else Err Transform

-- the numbers by which a use stands: the third and the sixth are displacements, and the others are the factors of an orientation
abbrev pub six_in : Six → Result (List ℤ) MagFault
six_in words =
    and_then (number_in words.0) (λ a.
    and_then (number_in words.1) (λ b.
    and_then (displacement_in words.2) (λ c.
    and_then (number_in words.3) (λ d.
    and_then (number_in words.4) (λ e.
    and_then (displacement_in words.5) (λ f.
    if_orientation a b c d e f))))))
