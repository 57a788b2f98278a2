-- Sums over places where there may be paint, and over such places in few parts, are small.
use Rattle.lawful_trees.proofs.Common.{◌≡◌, ◌<◌, ◌≤◌, ℕ, ℤ, pos, List, [], ◌∷◌, map, length, ◌∙◌, ap, subst, arith, ints, length-map, In, Distinct}
use Rattle.lawful_trees.proofs.Common.{sum_on, Total, In-map_source, Place}
use Rattle.std.proofs.Common.{◌*◌, ◌^◌, neg_ℤ, ◌≤ℤ◌}
use Rattle.finite_sets.specs.Range.{IsBetween, nonnegative_part, integer_range, pairs_of}
use Rattle.finite_sets.proofs.Distincts.{Distinct-map, length-distinct}
use Rattle.finite_sets.proofs.Ranges.{extent_up, Lists-integer_range, Lists-pairs_of, length-integer_range, length-pairs_of}
use Rattle.geo_core.specs.declared.limits.TheConstants.{PAINT_EDGE}
use Rattle.lawful_trees.proofs.NearPlaces.{IsPaintPlace}
use Rattle.lawful_trees.proofs.SmallWeights.{IsLittle}

-- a position of a part with a place
abbrev pub PartPlace : Type 0
PartPlace = ℕ × Place

-- the four numbers of it
abbrev Numbers : Type 0
Numbers = (ℤ × ℤ) × (ℤ × ℤ)

-- the position, the plane and the two coordinates
numbers_of : PartPlace → Numbers
numbers_of at = ((pos at.0, pos at.1.plane), (at.1.square.x, at.1.square.y))

-- the position and the place of these numbers
place_of : Numbers → PartPlace
place_of n = (nonnegative_part n.0.0, record { plane = nonnegative_part n.0.1; square = record { x = n.1.0; y = n.1.1 } })

-- they tell the place
same_place : (a b : PartPlace) → numbers_of a ≡ numbers_of b → a ≡ b
unfolding numbers_of place_of
same_place a b same = ap place_of same

-- the coordinates that paint may have
abbrev line : List ℤ
line = integer_range (neg_ℤ PAINT_EDGE) PAINT_EDGE

-- from 0 up to so many
abbrev first_of : ℕ → List ℤ
first_of count = integer_range (pos 0) (pos count)

-- the numbers of all places where there may be paint, in so many parts
abbrev all_numbers : ℕ → List Numbers
all_numbers count = pairs_of (pairs_of (first_of count) (first_of 8)) (pairs_of line line)

-- there are so many
length-first : (count : ℕ) → length (first_of count) ≡ count
length-first count = length-integer_range (pos 0) (pos count) ∙ omega (arith, ints, extent_up (pos 0) (pos count) (omega (arith, ints)))

-- there are fewer than 2^27 of them
length-line : length line ≡ 134217716
length-line = length-integer_range (neg_ℤ PAINT_EDGE) PAINT_EDGE

-- there are so many
length-all : (count : ℕ) → length (all_numbers count) ≡ count * 8 * (134217716 * 134217716)
length-all count =
    length-pairs_of (pairs_of (first_of count) (first_of 8)) (pairs_of line line)
    ∙ ap (λ n. n * length (pairs_of line line)) (length-pairs_of (first_of count) (first_of 8)
    ∙ ap (λ n. n * length (first_of 8)) (length-first count) ∙ ap (λ n. count * n) (length-first 8))
    ∙ ap (λ n. count * 8 * n) (length-pairs_of line line ∙ ap (λ n. n * n) length-line)

-- Its position is below the count, and there may be paint at its place.
pub record IsNear (count : ℕ) (at : PartPlace) : Type 0 where
  pub below : at.0 < count
  pub place : IsPaintPlace at.1

-- its numbers are among them
In-all : (count : ℕ) (at : PartPlace) → IsNear count at → In (numbers_of at) (all_numbers count)
unfolding numbers_of
In-all count at near =
    let Between : ℤ → Type 0 = IsBetween (neg_ℤ PAINT_EDGE) PAINT_EDGE in
    let First : ℕ → ℤ → Type 0 = λ n. IsBetween (pos 0) (pos n) in
    let across = Lists-integer_range (neg_ℤ PAINT_EDGE) PAINT_EDGE in
    let squares = Lists-pairs_of Between Between line line across across in
    let planes = Lists-pairs_of (First count) (First 8) (first_of count) (first_of 8) (Lists-integer_range (pos 0) (pos count))
    (Lists-integer_range (pos 0) (pos 8)) in
    let all = Lists-pairs_of (λ (p : ℤ × ℤ). First count p.0 × First 8 p.1) (λ (p : ℤ × ℤ). Between p.0 × Between p.1)
    (pairs_of (first_of count) (first_of 8)) (pairs_of line line) planes squares in
    let covers = near.place.covers in
    all.1 (numbers_of at) (
      (
        (omega (arith, ints), omega (arith, ints, near.below)),
        (omega (arith, ints), omega (arith, ints, near.place.plane)),
      ),
      ((covers.right_of_xlo, covers.left_of_xhi), (covers.above_ylo, covers.below_yhi)),
    )

-- different places in so many parts are few
few_places : (count : ℕ) (places : List PartPlace) → Distinct places → ((at : PartPlace) → In at places → IsNear count at)
    → length places ≤ count * 2 ^ 57
few_places count places distinct near =
    let apart = Distinct-map numbers_of places (λ a b i j same. same_place a b same) distinct in
    let within : (n : Numbers) → In n (map numbers_of places) → In n (all_numbers count) = λ n listed.
    (let source = In-map_source numbers_of n places listed in
    subst (λ (m : Numbers). In m (all_numbers count)) source.1.1 (In-all count source.0 (near source.0 source.1.0))) in
    let fewer = length-distinct (map numbers_of places) (all_numbers count) apart within in
    let many : length (all_numbers count) ≤ count * 2 ^ 57 = omega (arith, length-all count) in
    omega (arith, fewer, length-map places numbers_of, many)

-- A sum from 0 to five million for each of 2^57 places in so many parts.
pub record IsSmallSum (count : ℕ) (sum : ℤ) : Type 0 where
  pub low : pos 0 ≤ℤ sum
  pub high : sum ≤ℤ pos (count * (2 ^ 57 * 5000000))

-- no sum of little numbers is greater than so many of them
sum_little : (w : PartPlace → ℤ) (places : List PartPlace) → ((at : PartPlace) → IsLittle (w at))
    → (pos 0 ≤ℤ sum_on w places) × (sum_on w places ≤ℤ pos (length places * 5000000))
sum_little w [] each = (omega (arith, ints), omega (arith, ints))
sum_little w (at ∷ places) each =
    let here = each at in
    let rest = sum_little w places each in
    (omega (arith, ints, here.low, rest.0), omega (arith, ints, here.high, rest.1))

-- the total of a weight that is little everywhere is small
pub small_total : (count : ℕ) (Within : PartPlace → Type 0) (w : PartPlace → ℤ) (total : ℤ) → ((at : PartPlace) → IsLittle (w at))
    → ((at : PartPlace) → Within at → IsNear count at) → Total Within w total → IsSmallSum count total
small_total count Within w total little near is =
    let places = is.0 in
    let few = few_places count places is.1.0.0 (λ at listed. near at (is.1.0.2 at listed)) in
    let sum = sum_little w places little in
    let same = is.1.1 in
    record { low = omega (arith, ints, sum.0, same); high = omega (arith, ints, sum.1, same, few) }
