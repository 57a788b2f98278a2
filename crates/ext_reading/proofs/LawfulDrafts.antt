-- What is read is lawful, line by line.
use Rattle.ext_reading.proofs.Common.{◌≡◌, ◌≤◌, ◌<◌, ◌+◌, ◌*◌, ℕ, ℤ, pos, Bool, true, false, cond, Option, List, [], ◌∷◌, ◌++◌, length, Result, Ok}
use Rattle.ext_reading.proofs.Common.{Err, refl, sym, ap, ◌∙◌, subst, arith, inl, inr, length-append, Some, None, ◌+ℤ◌, ◌<ℤ◌, nat_lt, nat_le, sum_by}
use Rattle.ext_reading.proofs.Common.{w32, unsigned_abs, and_parts, ltb-true, leb-true, Decides-int_eq, nat_tests, ints, sum_by-cons, Grid}
use Rattle.ext_reading.proofs.Common.{MOST_ELEMENTS, indices, six_of, matrix, is_orientation, MOST_CLASSES, MEASURE_EDGE, LENGTHS_EDGE, SHIFT_EDGE}
use Rattle.ext_reading.proofs.Common.{FET_EDGE, TermRec, IsMeasure, IsPlacement, HasIdForm, ExtReadFault, Range, LONGEST_READ_TEXT, SideLine}
use Rattle.ext_reading.proofs.Common.{Corners, is_short, is_next, Six, HasNameForm, short_in, measure_in, pair_in, measures_from, class_value_in}
use Rattle.ext_reading.proofs.Common.{class_values_from, class_values_in, six_in, grid_in, point_in, term_in, terms_from}
use Rattle.std.specs.Int.RustNames.{FitsSigned}
use Rattle.ext_reading.specs.declared.faults.ExtReadFault.TheVariants.{Transform as NoOrientation}
use Rattle.ext_reading.specs.LineForms.{are_corners}
use Rattle.geo_core.proofs.OrientationLaws.{six_of-is_orientation}
use Rattle.ext_reading.proofs.Outcomes.{OkHas, next_has, given_has, passed_has, Each, each_none, each_push}
use Rattle.ext_reading.proofs.UseNames.{short_fits}

-- numbers in their ranges
if_short : (z w : ℤ) (test : Bool) → is_short z ≡ test → cond test (Ok z) (Err Range) ≡ Ok w → (z ≡ w) × FitsSigned w32 w
if_short z w true is e = let same : z ≡ w = cc in (same, subst (FitsSigned w32) same (short_fits z is))
if_short z w false is e = absurd (let no : ⊥ = cc in no)

-- a number of 32 bits is the one that stands there
pub short_in-Ok : (numeral : Option ℤ) (w : ℤ) → short_in numeral ≡ Ok w → (numeral ≡ Some w) × FitsSigned w32 w
short_in-Ok (Some z) w e = let is = if_short z w (is_short z) refl e in (ap Some is.0, is.1)
short_in-Ok None w e = absurd (let no : ⊥ = cc in no)

short_shift : (z : ℤ) → FitsSigned w32 z → unsigned_abs z < SHIFT_EDGE
short_shift z fits = grind (arith, ints)

pub measure_in-has : (numeral : Option ℤ) → OkHas IsMeasure (measure_in numeral)
measure_in-has (Some z) = passed_has IsMeasure (nat_lt (unsigned_abs z) MEASURE_EDGE) (Ok z) Range (λ is. ltb-true (unsigned_abs z) MEASURE_EDGE is)
measure_in-has None = tt

-- an area and a perimeter
pub record IsPair (measure : ℤ × ℤ) : Type 0 where
  pub area : IsMeasure measure.0
  pub perimeter : IsMeasure measure.1

pair_in-has : (a p : Option ℤ) → OkHas IsPair (pair_in a p)
pair_in-has a p =
    next_has IsMeasure IsPair (measure_in a) _ (measure_in-has a) (λ area one.
    next_has IsMeasure IsPair (measure_in p) _ (measure_in-has p) (λ perimeter two. record { area = one; perimeter = two }))

record ArePairs (before : List (ℤ × ℤ)) (numerals : List (Option ℤ)) (all : List (ℤ × ℤ)) : Type 0 where
  pairs : Each IsPair all
  no_more : 2 * length all ≤ 2 * length before + length numerals
  no_fewer : 2 * length before + length numerals ≤ 2 * length all + 1

measures_from-has : (before : List (ℤ × ℤ)) (numerals : List (Option ℤ)) → Each IsPair before → OkHas (ArePairs before numerals) (measures_from before numerals)
measures_from-has before [] all = record { pairs = all; no_more = omega arith; no_fewer = omega arith }
measures_from-has before (a ∷ []) all = record { pairs = all; no_more = omega arith; no_fewer = omega arith }
measures_from-has before (a ∷ p ∷ numerals) all =
    next_has IsPair (ArePairs before (a ∷ p ∷ numerals)) (pair_in a p) (λ measure. measures_from (before ++ measure ∷ []) numerals) (pair_in-has a p)
    (λ measure is.
    more measure (measures_from (before ++ measure ∷ []) numerals)
    (measures_from-has (before ++ measure ∷ []) numerals (each_push IsPair before measure all is)))
  where
    more : (measure : ℤ × ℤ) (found : Result (List (ℤ × ℤ)) ExtReadFault) → OkHas (ArePairs (before ++ measure ∷ []) numerals) found
        → OkHas (ArePairs before (a ∷ p ∷ numerals)) found
    more measure (Ok measures) is = record {
      pairs = is.pairs;
      no_more = omega (arith, is.no_more, length-append before (measure ∷ []));
      no_fewer = omega (arith, is.no_fewer, length-append before (measure ∷ []));
    }
    more measure (Err fault) is = tt

pub record AreCounted (classes : ℕ) (measures : List (ℤ × ℤ)) : Type 0 where
  pub count : length measures ≡ classes
  pub pairs : Each IsPair measures

pub measures_in-has : (classes : ℕ) (numerals : List (Option ℤ)) → length numerals ≡ 2 * classes → OkHas (AreCounted classes) (measures_from [] numerals)
measures_in-has classes numerals twice = counted (measures_from [] numerals) (measures_from-has [] numerals (each_none IsPair))
  where
    counted : (found : Result (List (ℤ × ℤ)) ExtReadFault) → OkHas (ArePairs [] numerals) found → OkHas (AreCounted classes) found
    counted (Ok measures) is = record { count = omega (arith, is.no_more, is.no_fewer, twice); pairs = is.pairs }
    counted (Err fault) is = tt

class_values_few : (values : List ℕ) (numerals : List (Option ℤ)) → OkHas (λ all. length all
    ≡ length values + length numerals) (class_values_from values numerals)
class_values_few values [] = omega arith
class_values_few values (n ∷ numerals) =
    given_has (λ all. length all ≡ length values + length (n ∷ numerals)) (class_value_in n) _ (λ value e.
    same (class_values_from (values ++ value ∷ []) numerals) (length (values ++ value ∷ []) + length numerals)
    (class_values_few (values ++ value ∷ []) numerals) (omega (arith, length-append values (value ∷ []))))
  where
    same : (found : Result (List ℕ) ExtReadFault) (count : ℕ) → OkHas (λ all. length all ≡ count) found → count ≡ length values + length (n ∷ numerals)
        → OkHas (λ all. length all ≡ length values + length (n ∷ numerals)) found
    same (Ok all) count is e = is ∙ e
    same (Err fault) count is e = tt

pub class_values_in-has : (numerals : List (Option ℤ)) → OkHas (λ values. length values ≤ MOST_CLASSES) (class_values_in numerals)
class_values_in-has numerals =
    passed_has (λ values. length values ≤ MOST_CLASSES) (nat_le (length numerals) MOST_CLASSES) (class_values_from [] numerals) Range
    (λ few. bounded (class_values_from [] numerals) (class_values_few [] numerals) few)
  where
    bounded : (found : Result (List ℕ) ExtReadFault) → OkHas (λ all. length all ≡ length {A = ℕ} [] + length numerals) found
        → nat_le (length numerals) MOST_CLASSES ≡ true → OkHas (λ values. length values ≤ MOST_CLASSES) found
    bounded (Ok all) is few = grind (arith, nat_tests)
    bounded (Err fault) is few = tt

-- the six numbers of a use
placement_of : (a b c d e f : ℤ) → FitsSigned w32 c → FitsSigned w32 f → is_orientation a b d e ≡ true → IsPlacement SHIFT_EDGE (a ∷ b ∷ c ∷ d ∷ e ∷ f ∷ [])
placement_of a b c d e f across up is =
    let one = six_of-is_orientation a b d e is in
    let o = one.0.orient in
    let same : six_of one.0 ≡ a ∷ b ∷ pos 0 ∷ d ∷ e ∷ pos 0 ∷ [] = one.1 in
    let ea : (matrix o).a ≡ a = cc in
    let eb : (matrix o).b ≡ b = cc in
    let ed : (matrix o).d ≡ d = cc in
    let ee : (matrix o).e ≡ e = cc in
    record {
      transform = record { orient = o; dx = c; dy = f };
      numbers = cc;
      dx = short_shift c across;
      dy = short_shift f up;
    }

pub six_in-has : (six : Six) → OkHas (IsPlacement SHIFT_EDGE) (six_in six)
six_in-has six =
    given_has (IsPlacement SHIFT_EDGE) (short_in six.0) _ (λ a e1.
    given_has (IsPlacement SHIFT_EDGE) (short_in six.1) _ (λ b e2.
    given_has (IsPlacement SHIFT_EDGE) (short_in six.2) _ (λ c e3.
    given_has (IsPlacement SHIFT_EDGE) (short_in six.3) _ (λ d e4.
    given_has (IsPlacement SHIFT_EDGE) (short_in six.4) _ (λ e e5.
    given_has (IsPlacement SHIFT_EDGE) (short_in six.5) _ (λ f e6.
    passed_has (IsPlacement SHIFT_EDGE) (is_orientation a b d e) (Ok (a ∷ b ∷ c ∷ d ∷ e ∷ f ∷ [])) NoOrientation
    (λ is. placement_of a b c d e f (short_in-Ok six.2 c e3).1 (short_in-Ok six.5 f e6).1 is)))))))

-- the grid of a use with a name of its form
pub grid_in-has : (numbers : Option Six) (id : List ℕ) → HasNameForm numbers id → OkHas (λ grid. HasIdForm grid id) (grid_in numbers)
grid_in-has None id form = form
grid_in-has (Some six) id form =
    let P : Option Grid → Type 0 = λ grid. HasIdForm grid id in
    given_has P (short_in six.0) _ (λ xlo e1.
    given_has P (short_in six.1) _ (λ xhi e2.
    given_has P (short_in six.2) _ (λ xsep e3.
    given_has P (short_in six.3) _ (λ ylo e4.
    given_has P (short_in six.4) _ (λ yhi e5.
    given_has P (short_in six.5) _ (λ ysep e6.
    passed_has P (nat_le (indices xlo xhi * indices ylo yhi) MOST_ELEMENTS)
    (Ok (Some (record { xlo = xlo; xhi = xhi; xsep = xsep; ylo = ylo; yhi = yhi; ysep = ysep }))) Range (λ few. (
      form,
      record {
        xlo = (short_in-Ok six.0 xlo e1).1;
        xhi = (short_in-Ok six.1 xhi e2).1;
        xsep = (short_in-Ok six.2 xsep e3).1;
        ylo = (short_in-Ok six.3 ylo e4).1;
        yhi = (short_in-Ok six.4 yhi e5).1;
        ysep = (short_in-Ok six.5 ysep e6).1;
        count = leb-true (indices xlo xhi * indices ylo yhi) MOST_ELEMENTS few;
      },
    ))))))))

-- the point of a transistor
pub record IsPoint (point : ℤ × ℤ) : Type 0 where
  pub x : FitsSigned w32 point.0
  pub y : FitsSigned w32 point.1
  pub x_below_edge : point.0 <ℤ FET_EDGE
  pub y_below_edge : point.1 <ℤ FET_EDGE

below_edge : (z next : ℤ) → next ≡ z +ℤ pos 1 → FitsSigned w32 next → z <ℤ FET_EDGE
below_edge z next e fits = grind (arith, ints)

next_below : (near far : Option ℤ) (z next : ℤ) → is_next near far ≡ true → short_in near ≡ Ok z → short_in far ≡ Ok next → z <ℤ FET_EDGE
next_below near far z next is one two =
    let a = short_in-Ok near z one in let b = short_in-Ok far next two in
    let told : is_next (Some z) (Some next) ≡ true = ap (λ n. is_next n (Some next)) (sym a.0) ∙ (ap (λ n. is_next near n) (sym b.0) ∙ is) in
    below_edge z next ((Decides-int_eq next (z +ℤ pos 1)).0 told) b.1

pub point_in-has : (corners : Corners) → are_corners corners ≡ true → OkHas IsPoint (point_in corners)
point_in-has corners is =
    let both = and_parts (is_next corners.x corners.far_x) (is_next corners.y corners.far_y) is in
    given_has IsPoint (short_in corners.x) _ (λ x e1.
    given_has IsPoint (short_in corners.y) _ (λ y e2.
    given_has IsPoint (short_in corners.far_x) _ (λ far_x e3.
    given_has IsPoint (short_in corners.far_y) _ (λ far_y e4.
    record {
      x = (short_in-Ok corners.x x e1).1;
      y = (short_in-Ok corners.y y e2).1;
      x_below_edge = next_below corners.x corners.far_x x far_x both.0 e1 e3;
      y_below_edge = next_below corners.y corners.far_y y far_y both.1 e2 e4;
    }))))

-- gates and terminals
abbrev pub IsMeasuredTerm : TermRec → Type 0
IsMeasuredTerm side = IsMeasure side.length

pub term_in-has : (side : SideLine) → OkHas IsMeasuredTerm (term_in side)
term_in-has side = next_has IsMeasure IsMeasuredTerm (measure_in side.length) _ (measure_in-has side.length) (λ length is. is)

pub record AreTerms (most : ℕ) (terms : List TermRec) : Type 0 where
  pub measured : Each IsMeasuredTerm terms
  pub count : length terms ≡ most

pub terms_from-has : (terms : List TermRec) (sides : List SideLine) → Each IsMeasuredTerm terms
    → OkHas (AreTerms (length terms + length sides)) (terms_from terms sides)
terms_from-has terms [] all = record { measured = all; count = omega arith }
terms_from-has terms (side ∷ sides) all =
    next_has IsMeasuredTerm (AreTerms (length terms + length (side ∷ sides))) (term_in side) _ (term_in-has side) (λ term is.
    same (terms_from (terms ++ term ∷ []) sides) (length (terms ++ term ∷ []) + length sides)
    (terms_from-has (terms ++ term ∷ []) sides (each_push IsMeasuredTerm terms term all is)) (omega (arith, length-append terms (term ∷ []))))
  where
    same : (found : Result (List TermRec) ExtReadFault) (count : ℕ) → OkHas (AreTerms count) found → count ≡ length terms + length (side ∷ sides)
        → OkHas (AreTerms (length terms + length (side ∷ sides))) found
    same (Ok all) count is e = record { measured = is.measured; count = is.count ∙ e }
    same (Err fault) count is e = tt

lengths_up_to : (terms : List TermRec) → Each IsMeasuredTerm terms → sum_by (λ side. unsigned_abs side.length) terms ≤ length terms *
    1267650600228229401496703205375
lengths_up_to [] all = omega arith
lengths_up_to (t ∷ terms) all =
    let first : unsigned_abs t.length < MEASURE_EDGE = all t (inl refl) in
    let rest = lengths_up_to terms (λ x h. all x (inr h)) in
    let sum = sum_by-cons (λ (side : TermRec). unsigned_abs side.length) t terms in
    omega (arith, first, rest, sum)

-- the lengths of so few terminals add up to less than the edge
pub lengths_below : (terms : List TermRec) → Each IsMeasuredTerm terms → length terms ≤ LONGEST_READ_TEXT
    → sum_by (λ side. unsigned_abs side.length) terms < LENGTHS_EDGE
lengths_below terms all few = let most = lengths_up_to terms all in omega (arith, most, few)
