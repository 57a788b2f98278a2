-- How many rectangles of a list cover a square.
use Rattle.interact.proofs.Common.{◌≡◌, ℕ, zero, suc, ℤ, pos, ◌≤ℤ◌, Bool, true, false, List, [], ◌∷◌, Some, inl, inr, refl, ◌∙◌, ap, arith}
use Rattle.interact.proofs.Common.{cases_Bool, ints, sum_on, one_if, Square, Rect, Covers, is_covered, CoversAt, IsInTwo}
use Rattle.geo_core.proofs.CoveringLaws.{Covers-is_covered, is_covered-Covers}

-- how many of the rectangles cover the square
abbrev pub covering : List Rect → Square → ℤ
covering areas square = sum_on (λ area. one_if (is_covered area square)) areas

-- what counts one or nothing counts nothing below zero
one_if-nonnegative : (b : Bool) → pos 0 ≤ℤ one_if b
one_if-nonnegative true = omega (arith, ints)
one_if-nonnegative false = omega (arith, ints)

-- no fewer than none cover a square
covering-nonnegative : (areas : List Rect) (square : Square) → pos 0 ≤ℤ covering areas square
covering-nonnegative [] square = omega (arith, ints)
covering-nonnegative (area ∷ rest) square =
    let first = one_if-nonnegative (is_covered area square) in
    let more = covering-nonnegative rest square in
    omega (arith, ints, first, more)

-- the first rectangle counts one if it covers the square
first_counts : (area first : Rect) (square : Square) → Some area ≡ Some first → Covers first square → one_if (is_covered area square) ≡ pos 1
first_counts area first square is c =
    let same : area ≡ first = cc in
    ap (λ (v : Rect). one_if (is_covered v square)) same ∙ ap one_if (is_covered-Covers first square c)

-- what covers a square in the rest of a list
at_later : (area : Rect) (rest : List Rect) (square : Square) (k : ℕ) → CoversAt (area ∷ rest) (suc k) square → CoversAt rest k square
at_later area rest square k c = record { area = c.area; there = c.there; covers = c.covers }

-- and back
later_at : (area : Rect) (rest : List Rect) (square : Square) (k : ℕ) → CoversAt rest k square → CoversAt (area ∷ rest) (suc k) square
later_at area rest square k c = record { area = c.area; there = c.there; covers = c.covers }

-- what covers a square counts
counts_one : (areas : List Rect) (square : Square) (k : ℕ) → CoversAt areas k square → pos 1 ≤ℤ covering areas square
counts_one [] square k c = absurd (let none = c.there in cc)
counts_one (area ∷ rest) square zero c =
    let first = first_counts area c.area square c.there c.covers in
    let more = covering-nonnegative rest square in
    omega (arith, ints, first, more)
counts_one (area ∷ rest) square (suc k) c =
    let first = one_if-nonnegative (is_covered area square) in
    let more = counts_one rest square k (at_later area rest square k c) in
    omega (arith, ints, first, more)

-- where one counts, it covers the square
one_covers : (areas : List Rect) (square : Square) → pos 1 ≤ℤ covering areas square → (k : ℕ) × CoversAt areas k square
one_covers [] square some = absurd (omega (arith, ints, some))
one_covers (area ∷ rest) square some = elim (cases_Bool (is_covered area square)) [
  | inl t ↦ (0, record { area = area; there = refl; covers = Covers-is_covered area square t })
  | inr t ↦ (let none : one_if (is_covered area square) ≡ pos 0 = ap one_if t in
      let later = one_covers rest square (omega (arith, ints, some, none)) in (suc later.0, later_at area rest square later.0 later.1))
]

-- two that cover a square count two
pub counts_two : (areas : List Rect) (square : Square) → IsInTwo areas square → pos 2 ≤ℤ covering areas square
counts_two areas square two = by_places areas two.first two.second two.differ two.in_first two.in_second
  where
    by_places : (areas : List Rect) (i j : ℕ) → (i ≡ j → ⊥) → CoversAt areas i square → CoversAt areas j square → pos 2 ≤ℤ covering areas square
    by_places [] i j differ c d = absurd (let none = c.there in cc)
    by_places (area ∷ rest) zero zero differ c d = absurd (differ refl)
    by_places (area ∷ rest) zero (suc j) differ c d =
        let first = first_counts area c.area square c.there c.covers in
        let more = counts_one rest square j (at_later area rest square j d) in
        omega (arith, ints, first, more)
    by_places (area ∷ rest) (suc i) zero differ c d =
        let first = first_counts area d.area square d.there d.covers in
        let more = counts_one rest square i (at_later area rest square i c) in
        omega (arith, ints, first, more)
    by_places (area ∷ rest) (suc i) (suc j) differ c d =
        let first = one_if-nonnegative (is_covered area square) in
        let more = by_places rest i j (λ same. differ (ap suc same)) (at_later area rest square i c) (at_later area rest square j d) in
        omega (arith, ints, first, more)

-- where two count, two cover the square
pub two_cover : (areas : List Rect) (square : Square) → pos 2 ≤ℤ covering areas square → IsInTwo areas square
two_cover [] square some = absurd (omega (arith, ints, some))
two_cover (area ∷ rest) square some = elim (cases_Bool (is_covered area square)) [
  | inl t ↦ (let one : one_if (is_covered area square) ≡ pos 1 = ap one_if t in
      let later = one_covers rest square (omega (arith, ints, some, one)) in
      record {
        first = 0;
        second = suc later.0;
        differ = λ same. omega (arith, same);
        in_first = record { area = area; there = refl; covers = Covers-is_covered area square t };
        in_second = later_at area rest square later.0 later.1;
      })
  | inr t ↦ (let none : one_if (is_covered area square) ≡ pos 0 = ap one_if t in
      let later = two_cover rest square (omega (arith, ints, some, none)) in
      record {
        first = suc later.first;
        second = suc later.second;
        differ = λ same. later.differ (let is : later.first ≡ later.second = omega (arith, same) in is);
        in_first = later_at area rest square later.first later.in_first;
        in_second = later_at area rest square later.second later.in_second;
      })
]
