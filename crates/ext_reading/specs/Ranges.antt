-- The numbers of a circuit file within their ranges.
use Rattle.std.specs.Prelude.{◌*◌, nat_le, nat_lt, ℕ, ℤ, pos, if◌then◌else◌, List, [], ◌∷◌, ◌++◌, length, Option}
use Rattle.std.specs.Prelude.{Some, None, Result, Ok, Err}
use Rattle.std.specs.Int.{w32}
use Rattle.std.specs.Int.RustNames.{unsigned_abs, FitsSigned}
use Rattle.text_form.specs.SaidLines.{and_then}
use Rattle.geo_core.specs.declared.grids.Grid.{Grid}
use Rattle.geo_core.specs.declared.limits.TheConstants.{MOST_ELEMENTS}
use Rattle.geo_core.specs.Elements.{indices}
use Rattle.geo_core.specs.Orientation.{is_orientation}
use Rattle.ext_model.specs.declared.limits.TheConstants.{MOST_CLASSES, MEASURE_EDGE}
use Rattle.ext_model.specs.declared.records.TermRec.{TermRec}
use Rattle.ext_reading.specs.declared.faults.ExtReadFault.{ExtReadFault}
use Rattle.ext_reading.specs.declared.faults.ExtReadFault.TheVariants.{Range, Transform}
use Rattle.ext_reading.specs.declared.limits.TheConstants.{GREATEST_CLASS_VALUE}
use Rattle.ext_reading.specs.declared.lines.Corners.{Corners}
use Rattle.ext_reading.specs.declared.lines.SideLine.{SideLine}
use Rattle.ext_reading.specs.Parts.{is_short}
use Rattle.ext_reading.specs.LineForms.{Six}

abbrev pub short_in : Option ℤ → Result ℤ ExtReadFault
short_in (Some z) = if is_short z then Ok z else Err Range
short_in None = Err Range

-- a capacitance, an area, a perimeter or a length: below the edge in absolute value
abbrev pub measure_in : Option ℤ → Result ℤ ExtReadFault
measure_in (Some z) = if nat_lt (unsigned_abs z) MEASURE_EDGE then Ok z else Err Range
measure_in None = Err Range

-- an area and a perimeter
abbrev pub pair_in : Option ℤ → Option ℤ → Result (ℤ × ℤ) ExtReadFault
pair_in area perimeter = and_then (measure_in area) (λ area. and_then (measure_in perimeter) (λ perimeter. Ok (area, perimeter)))

-- for each class an area and a perimeter, behind these
abbrev pub measures_from : List (ℤ × ℤ) → List (Option ℤ) → Result (List (ℤ × ℤ)) ExtReadFault
measures_from measures (area ∷ perimeter ∷ numerals) =
    and_then (pair_in area perimeter) (λ measure. measures_from (measures ++ measure ∷ []) numerals)
measures_from measures _ = Ok measures

abbrev pub measures_in : List (Option ℤ) → Result (List (ℤ × ℤ)) ExtReadFault
measures_in numerals = measures_from [] numerals

-- the value of a class
abbrev pub class_value_of : ℤ → Result ℕ ExtReadFault
class_value_of (pos n) = if nat_le n GREATEST_CLASS_VALUE then Ok n else Err Range
class_value_of _ = Err Range

abbrev pub class_value_in : Option ℤ → Result ℕ ExtReadFault
class_value_in (Some z) = class_value_of z
class_value_in None = Err Range

-- the values of classes, behind these
abbrev pub class_values_from : List ℕ → List (Option ℤ) → Result (List ℕ) ExtReadFault
class_values_from values [] = Ok values
class_values_from values (numeral ∷ numerals) = and_then (class_value_in numeral) (λ value. class_values_from (values ++ value ∷ []) numerals)

-- the values of no more classes than a record may have
abbrev pub class_values_in : List (Option ℤ) → Result (List ℕ) ExtReadFault
class_values_in numerals = if nat_le (length numerals) MOST_CLASSES then class_values_from [] numerals else Err Range

abbrev pub if_orientation : ℤ → ℤ → ℤ → ℤ → ℤ → ℤ → Result (List ℤ) ExtReadFault
if_orientation a b c d e f = if is_orientation a b d e then Ok (a ∷ b ∷ c ∷ d ∷ e ∷ f ∷ []) else Err Transform

-- the numbers by which a use stands: an orientation, and a displacement as the third and the sixth
abbrev pub six_in : Six → Result (List ℤ) ExtReadFault
six_in six =
    and_then (short_in six.0) (λ a.
    and_then (short_in six.1) (λ b.
    and_then (short_in six.2) (λ c.
    and_then (short_in six.3) (λ d.
    and_then (short_in six.4) (λ e.
    and_then (short_in six.5) (λ f.
    if_orientation a b c d e f))))))

-- The indices of the grid begin and end within 32 bits with sign.
pub record HasShortEnds (grid : Grid) : Type 0 where
  pub xlo : FitsSigned w32 grid.xlo
  pub xhi : FitsSigned w32 grid.xhi
  pub ylo : FitsSigned w32 grid.ylo
  pub yhi : FitsSigned w32 grid.yhi

-- a grid of no more elements than there may be
abbrev pub if_few : Grid → Result (Option Grid) ExtReadFault
if_few grid = if nat_le (indices grid.xlo grid.xhi * indices grid.ylo grid.yhi) MOST_ELEMENTS then Ok (Some grid) else Err Range

-- the grid of a use, where it has one
abbrev pub grid_in : Option Six → Result (Option Grid) ExtReadFault
grid_in None = Ok None
grid_in (Some six) =
    and_then (short_in six.0) (λ xlo.
    and_then (short_in six.1) (λ xhi.
    and_then (short_in six.2) (λ xsep.
    and_then (short_in six.3) (λ ylo.
    and_then (short_in six.4) (λ yhi.
    and_then (short_in six.5) (λ ysep.
    if_few (record { xlo = xlo; xhi = xhi; xsep = xsep; ylo = ylo; yhi = yhi; ysep = ysep })))))))

-- the point of a transistor, whose far corner is in the range too
abbrev pub point_in : Corners → Result (ℤ × ℤ) ExtReadFault
point_in corners =
    and_then (short_in corners.x) (λ x.
    and_then (short_in corners.y) (λ y.
    and_then (short_in corners.far_x) (λ _.
    and_then (short_in corners.far_y) (λ _.
    Ok (x, y)))))

-- a gate or a terminal
abbrev pub term_in : SideLine → Result TermRec ExtReadFault
term_in side = and_then (measure_in side.length) (λ length. Ok (record { node = side.node; length = length }))

-- terminals, behind these
abbrev pub terms_from : List TermRec → List SideLine → Result (List TermRec) ExtReadFault
terms_from terms [] = Ok terms
terms_from terms (side ∷ sides) = and_then (term_in side) (λ term. terms_from (terms ++ term ∷ []) sides)
