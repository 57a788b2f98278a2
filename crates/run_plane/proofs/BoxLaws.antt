-- The smallest rectangle that covers all squares with a number, row after row.
use Rattle.run_plane.proofs.Common.{◌≡◌, ◌≢◌, ◌⊎◌, inl, inr, ℕ, zero, suc, ◌+◌, ◌-◌, ◌<◌, ◌≤◌, ℤ, pos, ◌+ℤ◌, ◌-ℤ◌, ◌≤ℤ◌, ◌<ℤ◌, List, [], ◌∷◌, length}
use Rattle.run_plane.proofs.Common.{get_or, refl, sym, ◌∙◌, ap, subst, arith, ◌^◌, Option, Some, None, MatchOption, cases_lt, ints, In, In-get_or}
use Rattle.run_plane.proofs.Common.{at_most_or_greater, PLANE_EDGE, Square, Rect, IsNear, Covers, HasValue, IsBox, IsStrip, Run, Row, value_at}
use Rattle.run_plane.proofs.Common.{runs_from, number_at, edge, AreRuns, AreRows, square_at, joined_rect, no_row, IsRowBox}
use Rattle.std.specs.Prelude.{slice_get}
use Rattle.std.proofs.lemmas.Option.{slice_get_within, get_or_from_slice_get}
use Rattle.geo_core.specs.Areas.{LiesWithin}
use Rattle.geo_core.proofs.CoveringLaws.{covers_joined_left, covers_joined_right, joined_within}
use Rattle.run_plane.proofs.RunLaws.{value_of_run, run_of_value, run_facts}
use Rattle.run_plane.proofs.BandLaws.{number_high}
use Rattle.run_plane.proofs.RowLaws.{runs_stop, runs_top, runs_ordered, row_above, row_facts, rising_next, all_above}
use Rattle.run_plane.proofs.PieceLaws.{runs_index, IsBelowRow}

-- the first of runs begins first
pub first_begins : (low : ℤ) (runs : List Run) (d run : Run) → AreRuns low runs → In run runs → (get_or runs 0 d).xlo ≤ℤ run.xlo
first_begins low [] d run are i = absurd i
first_begins low (first ∷ runs) d run are (inl e) = let same : first.xlo ≡ run.xlo = ap (λ (r : Run). r.xlo) e in omega (arith, ints)
first_begins low (first ∷ runs) d run are (inr i) =
    let later : first.xhi ≤ℤ run.xlo = (run_facts first.xhi runs run are.1 i).from in
    let long : first.xlo <ℤ first.xhi = are.0.long in
    omega (arith, ints)

-- the last of runs ends last
pub last_ends : (low : ℤ) (runs : List Run) (k : ℕ) (d run : Run) → AreRuns low runs → k + 1 ≡ length runs → In run runs → run.xhi ≤ℤ (get_or runs k d).xhi
last_ends low [] k d run are e i = absurd i
last_ends low (first ∷ []) zero d run are e (inl f) = let same : first.xhi ≡ run.xhi = ap (λ (r : Run). r.xhi) f in omega (arith, ints)
last_ends low (first ∷ []) zero d run are e (inr i) = absurd i
last_ends low (first ∷ next ∷ runs) zero d run are e i = absurd (omega arith)
last_ends low (first ∷ runs) (suc k) d run are e (inr i) = last_ends first.xhi runs k d run are.1 (omega arith) i
last_ends low (first ∷ []) (suc k) d run are e (inl f) = absurd (omega arith)
last_ends low (first ∷ next ∷ runs) (suc k) d run are e (inl f) =
    let same : first.xhi ≡ run.xhi = ap (λ (r : Run). r.xhi) f in
    let more : next.xhi ≤ℤ (get_or (next ∷ runs) k d).xhi = last_ends first.xhi (next ∷ runs) k d next are.1 (omega arith) (inl refl) in
    let from : first.xhi ≤ℤ next.xlo = are.1.0.from in
    let long : next.xlo <ℤ next.xhi = are.1.0.long in
    omega (arith, ints)

-- one square away from the bounds
abbrev pub IsInner : ℤ → Type 0
IsInner z = ((edge +ℤ pos 1) ≤ℤ z) × (z <ℤ (PLANE_EDGE -ℤ pos 1))

-- squares with a number are near the origin
pub number_near : (rows : List Row) (square : Square) → AreRows rows → number_at rows square ≢ 0 → IsInner square.x × IsInner square.y
number_near rows square are some =
    let x = square.x in
    let y = square.y in
    let ordered = runs_ordered edge [] rows y tt are.rising in
    let found = run_of_value (runs_from [] rows y) x some in
    let run = found.0 in
    let facts = run_facts edge (runs_from [] rows y) run ordered found.1.0 in
    let left : edge <ℤ run.xlo = facts.left.0 in
    let right : run.xhi <ℤ PLANE_EDGE = facts.right.1 in
    let from : run.xlo ≤ℤ x = found.1.1 in
    let to : x <ℤ run.xhi = found.1.2 in
    let low : (edge +ℤ pos 1) ≤ℤ y = elim (at_most_or_greater (edge +ℤ pos 1) y) [
      | inl h ↦ h
      | inr h ↦ absurd (some (ap (λ (runs : List Run). value_at runs x) (runs_stop [] [] rows y
          (λ row i. let above : edge <ℤ row.ylo = row_above edge rows row are.rising i in omega (arith, ints, h)))))
    ] in
    let high : y <ℤ (PLANE_EDGE -ℤ pos 1) = elim (at_most_or_greater (PLANE_EDGE -ℤ pos 1) y) [
      | inr h ↦ h
      | inl h ↦ absurd (some (ap (λ (runs : List Run). value_at runs x) (runs_top [] rows y
          (λ row i. let near : row.ylo <ℤ PLANE_EDGE = (row_facts edge rows row are.rising i).near.1 in omega (arith, ints, h))) ∙ are.ended x))
    ] in
    ((omega (arith, ints), omega (arith, ints)), (low, high))

-- a strip of a number other than 0 is near the origin
pub strip_near : (rows : List Row) (value : ℕ) (area : Rect) → AreRows rows → value ≢ 0 → IsStrip (HasValue (number_at rows) value) area → IsNear area
strip_near rows value area are material strip =
    let tall : area.ylo <ℤ area.yhi = strip.high in
    let bottom = strip.runs area.ylo (omega (arith, ints)) tall in
    let top = strip.runs (area.yhi -ℤ pos 1) (omega (arith, ints)) (omega (arith, ints)) in
    let long : area.xlo <ℤ area.xhi = bottom.long in
    let first = bottom.within area.xlo (omega (arith, ints)) long in
    let last = top.within (area.xhi -ℤ pos 1) (omega (arith, ints)) (omega (arith, ints)) in
    let a = number_near rows (square_at area.xlo area.ylo) are (λ e. material (sym first ∙ e)) in
    let b = number_near rows (square_at (area.xhi -ℤ pos 1) (area.yhi -ℤ pos 1)) are (λ e. material (sym last ∙ e)) in
    let x0 : (edge +ℤ pos 1) ≤ℤ area.xlo = a.0.0 in
    let y0 : (edge +ℤ pos 1) ≤ℤ area.ylo = a.1.0 in
    let x1 : (area.xhi -ℤ pos 1) <ℤ (PLANE_EDGE -ℤ pos 1) = b.0.1 in
    let y1 : (area.yhi -ℤ pos 1) <ℤ (PLANE_EDGE -ℤ pos 1) = b.1.1 in
    record {
      xlo = (omega (arith, ints), omega (arith, ints));
      ylo = (omega (arith, ints), omega (arith, ints));
      xhi = (omega (arith, ints), omega (arith, ints));
      yhi = (omega (arith, ints), omega (arith, ints));
    }

-- so is the smallest rectangle that covers all of them
pub box_near : (rows : List Row) (box : Rect) → AreRows rows → IsBox (number_at rows) box → IsNear box
box_near rows box are is =
    let low = edge +ℤ pos 1 in
    let high = PLANE_EDGE -ℤ pos 1 in
    let bounds = is.least (record { xlo = low; ylo = low; xhi = high; yhi = high })
    (λ square some. let near = number_near rows square are some in
    record { right_of_xlo = near.0.0; left_of_xhi = near.0.1; above_ylo = near.1.0; below_yhi = near.1.1 }) in
    let c = is.covers is.square is.material in
    let x0 : low ≤ℤ box.xlo = bounds.right_of_xlo in
    let y0 : low ≤ℤ box.ylo = bounds.above_ylo in
    let x1 : box.xhi ≤ℤ high = bounds.left_of_xhi in
    let y1 : box.yhi ≤ℤ high = bounds.below_yhi in
    let x2 : box.xlo ≤ℤ is.square.x = c.right_of_xlo in
    let x3 : is.square.x <ℤ box.xhi = c.left_of_xhi in
    let y2 : box.ylo ≤ℤ is.square.y = c.above_ylo in
    let y3 : is.square.y <ℤ box.yhi = c.below_yhi in
    record {
      xlo = (omega (arith, ints), omega (arith, ints));
      ylo = (omega (arith, ints), omega (arith, ints));
      xhi = (omega (arith, ints), omega (arith, ints));
      yhi = (omega (arith, ints), omega (arith, ints));
    }

-- the smallest rectangle for the rows before a place
pub record IsBoxUpTo (rows : List Row) (k : ℕ) (box : Rect) : Type 0 where
  pub square : Square
  pub material : number_at rows square ≢ 0
  pub covers : (square : Square) → IsBelowRow rows k square.y → number_at rows square ≢ 0 → Covers box square
  pub least : (area : Rect) → ((square : Square) → number_at rows square ≢ 0 → Covers area square) → LiesWithin box area

-- the same, told as an option
abbrev pub BoxUpTo : List Row → ℕ → Option Rect → Type 0
BoxUpTo rows k found = MatchOption found ((square : Square) → IsBelowRow rows k square.y → number_at rows square ≡ 0) (IsBoxUpTo rows k)

module _ (rows : List Row) (are : AreRows rows) where
  own : (k : ℕ) (p : k + 1 < length rows) (x y : ℤ) → (get_or rows k no_row).ylo ≤ℤ y → y <ℤ (get_or rows (k + 1) no_row).ylo
      → number_at rows (square_at x y) ≡ value_at (get_or rows k no_row).runs x
  own k p x y from to = ap (λ (runs : List Run). value_at runs x) (runs_index edge [] rows k no_row y are.rising (omega arith) from (λ _. to))

  pub ordered : (k : ℕ) → k < length rows → AreRuns edge (get_or rows k no_row).runs
  ordered k p = (row_facts edge rows (get_or rows k no_row) are.rising (In-get_or rows k no_row p)).runs

  -- a square below the next row is below this row or in it
  below_or_in : (k : ℕ) (y : ℤ) → k + 1 < length rows → IsBelowRow rows (k + 1) y
      → (IsBelowRow rows k y) ⊎ (((get_or rows k no_row).ylo ≤ℤ y) × (y <ℤ (get_or rows (k + 1) no_row).ylo))
  below_or_in k y p below = elim (at_most_or_greater (get_or rows k no_row).ylo y) [ inl from ↦ inr (from, below p) | inr less ↦ inl (λ _. less) ]

  -- a row without runs adds nothing
  pub box_kept : (k : ℕ) (found : Option Rect) → k + 1 < length rows → (get_or rows k no_row).runs ≡ [] → BoxUpTo rows k found → BoxUpTo rows (k + 1) found
  box_kept k found p empty is = go found is
    where
      zero_in : (square : Square) → ((get_or rows k no_row).ylo ≤ℤ square.y) × (square.y <ℤ (get_or rows (k + 1) no_row).ylo) → number_at rows square ≡ 0
      zero_in square at = own k p square.x square.y at.0 at.1 ∙ ap (λ (runs : List Run). value_at runs square.x) empty

      go : (found : Option Rect) → BoxUpTo rows k found → BoxUpTo rows (k + 1) found
      go None none = λ square below. elim (below_or_in k square.y p below) [ inl b ↦ none square b | inr at ↦ zero_in square at ]
      go (Some box) some = record {
        square = some.square;
        material = some.material;
        covers = λ square below material. elim (below_or_in k square.y p below) [
          | inl b ↦ some.covers square b material
          | inr at ↦
              absurd (material (zero_in square at))
        ];
        least = some.least;
      }

  -- the rectangle of a row's runs
  row_box_is : (k : ℕ) (p : k + 1 < length rows) (area : Rect)
      → IsRowBox (get_or rows k no_row).runs (get_or rows k no_row).ylo (get_or rows (k + 1) no_row).ylo area
      → (get_or rows k no_row).ylo <ℤ (get_or rows (k + 1) no_row).ylo
      → ((square : Square) × (number_at rows square ≢ 0))
      × ((square : Square) → ((get_or rows k no_row).ylo ≤ℤ square.y) × (square.y <ℤ (get_or rows (k + 1) no_row).ylo) → number_at rows square ≢
      0 → Covers area square)
      × ((other : Rect) → ((square : Square) → number_at rows square ≢ 0 → Covers other square) → LiesWithin area other)
  row_box_is k p area is tall =
      let runs = (get_or rows k no_row).runs in
      let ylo = (get_or rows k no_row).ylo in
      let yhi = (get_or rows (k + 1) no_row).ylo in
      let order = ordered k (omega arith) in
      let first = is.first.0 in
      let last = is.last.0 in
      let f = run_facts edge runs first order is.first.1 in
      let l = run_facts edge runs last order is.last.1 in
      let f_long : first.xlo <ℤ first.xhi = f.long in
      let l_long : last.xlo <ℤ last.xhi = l.long in
      let low_corner : number_at rows (square_at first.xlo ylo) ≢ 0 = λ e.
      f.material (sym (own k p first.xlo ylo (omega (arith, ints)) tall ∙ value_of_run edge runs first first.xlo order is.first.1 (omega (arith, ints))
      f_long) ∙ e) in
      let high_corner : number_at rows (square_at (last.xhi -ℤ pos 1) (yhi -ℤ pos 1)) ≢ 0 = λ e.
      l.material (sym (own k p (last.xhi -ℤ pos 1) (yhi -ℤ pos 1) (omega (arith, ints)) (omega (arith, ints))
      ∙ value_of_run edge runs last (last.xhi -ℤ pos 1) order is.last.1 (omega (arith, ints)) (omega (arith, ints))) ∙ e) in
      let same_low : area.ylo ≡ ylo = is.low in
      let same_high : area.yhi ≡ yhi = is.high in
      let same_left : first.xlo ≡ area.xlo = is.first.2 in
      let same_right : last.xhi ≡ area.xhi = is.last.2 in (
        (square_at first.xlo ylo, low_corner),
        (λ square at some.
            let found = run_of_value runs square.x (λ e. some (own k p square.x square.y at.0 at.1 ∙ e)) in
            let inside = is.covers found.0 found.1.0 in
            let a : area.xlo ≤ℤ found.0.xlo = inside.0 in
            let b : found.0.xhi ≤ℤ area.xhi = inside.1 in
            let from : found.0.xlo ≤ℤ square.x = found.1.1 in
            let to : square.x <ℤ found.0.xhi = found.1.2 in
            let low : ylo ≤ℤ square.y = at.0 in
            let high : square.y <ℤ yhi = at.1 in
            record { right_of_xlo = omega (arith, ints); left_of_xhi = omega (arith, ints); above_ylo = omega (arith, ints); below_yhi = omega (arith, ints) }),
        (λ other all.
            let c = all (square_at first.xlo ylo) low_corner in
            let d = all (square_at (last.xhi -ℤ pos 1) (yhi -ℤ pos 1)) high_corner in
            let c0 : other.xlo ≤ℤ first.xlo = c.right_of_xlo in
            let c1 : other.ylo ≤ℤ ylo = c.above_ylo in
            let d0 : (last.xhi -ℤ pos 1) <ℤ other.xhi = d.left_of_xhi in
            let d1 : (yhi -ℤ pos 1) <ℤ other.yhi = d.below_yhi in
            record { right_of_xlo = omega (arith, ints); above_ylo = omega (arith, ints); left_of_xhi = omega (arith, ints); below_yhi = omega (arith, ints) }),
      )

  next_above : (k : ℕ) → k + 1 < length rows → (get_or rows k no_row).ylo <ℤ (get_or rows (k + 1) no_row).ylo
  next_above k p = rising_next edge rows k no_row are.rising p

  -- the first rectangle
  pub box_begun : (k : ℕ) (area : Rect) → k + 1 < length rows
      → IsRowBox (get_or rows k no_row).runs (get_or rows k no_row).ylo (get_or rows (k + 1) no_row).ylo area
      → BoxUpTo rows k None → BoxUpTo rows (k + 1) (Some area)
  box_begun k area p is none =
      let box = row_box_is k p area is (next_above k p) in
      record {
        square = box.0.0;
        material = box.0.1;
        covers = λ square below some. elim (below_or_in k square.y p below) [ inl b ↦ absurd (some (none square b)) | inr at ↦ box.1 square at some ];
        least = box.2;
      }

  -- one more rectangle
  pub box_grown : (k : ℕ) (old area : Rect) → k + 1 < length rows
      → IsRowBox (get_or rows k no_row).runs (get_or rows k no_row).ylo (get_or rows (k + 1) no_row).ylo area
      → BoxUpTo rows k (Some old) → BoxUpTo rows (k + 1) (Some (joined_rect old area))
  box_grown k old area p is some =
      let box = row_box_is k p area is (next_above k p) in
      record {
        square = some.square;
        material = some.material;
        covers = λ square below material. elim (below_or_in k square.y p below) [
          | inl b ↦ covers_joined_left old area square (some.covers square b material)
          | inr at ↦ covers_joined_right old area square (box.1 square at material)
        ];
        least = λ other all. joined_within old area other (some.least other all) (box.2 other all);
      }

  -- below the first row there is nothing
  pub box_none : BoxUpTo rows 0 None
  box_none = λ square below. ap (λ (runs : List Run). value_at runs square.x) (runs_stop [] [] rows square.y
      (all_above edge rows no_row square.y are.rising below))

  -- from the highest row on there is nothing
  pub box_whole : (k : ℕ) (found : Option Rect) → length rows ≤ k + 1 → BoxUpTo rows k found
      → MatchOption found ((square : Square) → number_at rows square ≡ 0) (IsBox (number_at rows))
  box_whole k found p is = go found is
    where
      -- from the highest row on
      zero_on : (square : Square) → k < length rows → (get_or rows k no_row).ylo ≤ℤ square.y → number_at rows square ≡ 0
      zero_on square q from =
          let far = PLANE_EDGE in
          let last : (y : ℤ) → (get_or rows k no_row).ylo ≤ℤ y → runs_from [] rows y ≡ (get_or rows k no_row).runs =
          λ y begun. runs_index edge [] rows k no_row y are.rising q begun (λ more. absurd (omega arith)) in
          let near : (get_or rows k no_row).ylo <ℤ far = (row_facts edge rows (get_or rows k no_row) are.rising (In-get_or rows k no_row q)).near.1 in
          ap (λ (runs : List Run). value_at runs square.x) (last square.y from ∙ sym (last far (omega (arith, ints)))) ∙ number_high rows square.x
          are.rising ∙ are.ended square.x

      below_or_zero : (square : Square) → IsBelowRow rows k square.y ⊎ (number_at rows square ≡ 0)
      below_or_zero square = elim (cases_lt k (length rows)) [
        | inr none ↦ inl (λ q. absurd (omega (arith, none, q)))
        | inl q ↦ elim (at_most_or_greater (get_or rows k no_row).ylo square.y) [ inl from ↦ inr (zero_on square q from) | inr less ↦ inl (λ _. less) ]
      ]

      go : (found : Option Rect) → BoxUpTo rows k found → MatchOption found ((square : Square) → number_at rows square ≡ 0) (IsBox (number_at rows))
      go None none = λ square. elim (below_or_zero square) [ inl below ↦ none square below | inr zero' ↦ zero' ]
      go (Some box) some = record {
        square = some.square;
        material = some.material;
        covers = λ square material. elim (below_or_zero square) [ inl below ↦ some.covers square below material | inr zero' ↦ absurd (material zero') ];
        least = some.least;
      }

-- the rectangle from the first run on to the end of the last
pub row_box_found : (runs : List Run) (first last : Run) (ylo yhi : ℤ) → AreRuns edge runs → slice_get runs 0 ≡ Some first
    → slice_get runs (length runs - 1) ≡ Some last
    → IsRowBox runs ylo yhi (record { xlo = first.xlo; ylo = ylo; xhi = last.xhi; yhi = yhi })
row_box_found runs first last ylo yhi ordered is_first is_last =
    let some : 0 < length runs = slice_get_within runs 0 first is_first in
    let end = length runs - 1 in
    let at_end : end < length runs = omega arith in
    let a : get_or runs 0 first ≡ first = get_or_from_slice_get runs 0 first first is_first in
    let b : get_or runs end last ≡ last = get_or_from_slice_get runs end last last is_last in
    record {
      low = refl;
      high = refl;
      first = (first, subst (λ (run : Run). In run runs) a (In-get_or runs 0 first some), refl);
      last = (last, subst (λ (run : Run). In run runs) b (In-get_or runs end last at_end), refl);
      covers = λ run i. (
        subst (λ (r : Run). r.xlo ≤ℤ run.xlo) a (first_begins edge runs first run ordered i),
        subst (λ (r : Run). run.xhi ≤ℤ r.xhi) b (last_ends edge runs end last run ordered (omega arith) i),
      );
    }
