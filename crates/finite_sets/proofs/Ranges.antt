-- The integers of a range, and the pairs of two lists.
use Rattle.std.proofs.Common.{◌≡◌, ℕ, zero, suc, ◌+◌, ◌*◌, ℤ, pos, negsuc, ◌+ℤ◌, ◌-ℤ◌, ◌≤ℤ◌, ◌<ℤ◌, List, [], ◌∷◌}
use Rattle.std.proofs.Common.{◌⊎◌, inl, inr, map, length, refl, sym, ◌∙◌, ap, subst, arith, length-append}
use Rattle.std.proofs.lemmas.Int.{ints, by_lt_z}
use Rattle.std.proofs.lemmas.List.{length-map}
use Rattle.finite_sets.specs.Lists.{In, Distinct, Lists}
use Rattle.finite_sets.specs.Range.{IsBetween, nonnegative_part, extent, integers_from, integer_range, pairs_of}
use Rattle.finite_sets.proofs.Members.{In-append_cases, In-append_left, In-append_right, In-map, In-map_source}
use Rattle.finite_sets.proofs.Distincts.{Distinct-append, Distinct-map}

-- they are so many
pub length-integers_from : (lo : ℤ) (n : ℕ) → length (integers_from lo n) ≡ n
length-integers_from lo zero = refl
length-integers_from lo (suc n) = omega (arith, length-integers_from (lo +ℤ pos 1) n)

In-integers_low : (lo : ℤ) (n : ℕ) (z : ℤ) → In z (integers_from lo n) → lo ≤ℤ z
In-integers_low lo zero z h = absurd h
In-integers_low lo (suc n) z (inl e) = omega (arith, ints)
In-integers_low lo (suc n) z (inr h) = omega (arith, ints, In-integers_low (lo +ℤ pos 1) n z h)

In-integers_high : (lo : ℤ) (n : ℕ) (z : ℤ) → In z (integers_from lo n) → z <ℤ (lo +ℤ pos n)
In-integers_high lo zero z h = absurd h
In-integers_high lo (suc n) z (inl e) = omega (arith, ints)
In-integers_high lo (suc n) z (inr h) = omega (arith, ints, In-integers_high (lo +ℤ pos 1) n z h)

first_or_later : (lo z : ℤ) → lo ≤ℤ z → (lo ≡ z) ⊎ ((lo +ℤ pos 1) ≤ℤ z)
first_or_later lo z low = by_lt_z lo z (λ h. inr (omega (arith, ints))) (λ h. inl (omega (arith, ints)))

In-integers : (lo : ℤ) (n : ℕ) (z : ℤ) → lo ≤ℤ z → z <ℤ (lo +ℤ pos n) → In z (integers_from lo n)
In-integers lo zero z low high = absurd (omega (arith, ints))
In-integers lo (suc n) z low high = elim (first_or_later lo z low) [
  | inl e ↦ inl e
  | inr later ↦ inr (In-integers (lo +ℤ pos 1) n z later (omega (arith, ints)))
]

Distinct-integers : (lo : ℤ) (n : ℕ) → Distinct (integers_from lo n)
Distinct-integers lo zero = tt
Distinct-integers lo (suc n) =
    ((λ h. let low = In-integers_low (lo +ℤ pos 1) n lo h in absurd (omega (arith, ints))), Distinct-integers (lo +ℤ pos 1) n)

nonnegative_part_is : (z : ℤ) → pos 0 ≤ℤ z → pos (nonnegative_part z) ≡ z
nonnegative_part_is (pos n) h = refl
nonnegative_part_is (negsuc n) h = absurd (omega (arith, ints))

nonnegative_part_none : (z : ℤ) → z ≤ℤ pos 0 → nonnegative_part z ≡ 0
nonnegative_part_none (pos n) h = omega (arith, ints)
nonnegative_part_none (negsuc n) h = refl

-- from lo to hi it is `extent` steps, if hi does not lie before lo
pub extent_up : (lo hi : ℤ) → lo ≤ℤ hi → lo +ℤ pos (extent lo hi) ≡ hi
extent_up lo hi h = let e = nonnegative_part_is (hi -ℤ lo) (omega (arith, ints)) in ap (λ z. lo +ℤ z) e ∙ omega (arith, ints)

-- a range that ends before it begins has none
pub extent_none : (lo hi : ℤ) → hi ≤ℤ lo → extent lo hi ≡ 0
extent_none lo hi h = nonnegative_part_none (hi -ℤ lo) (omega (arith, ints))

-- a range has as many integers as its extent says
pub length-integer_range : (lo hi : ℤ) → length (integer_range lo hi) ≡ extent lo hi
length-integer_range lo hi = length-integers_from lo (extent lo hi)

-- the range lists the integers from lo up to, and without, hi
pub Lists-integer_range : (lo hi : ℤ) → Lists (IsBetween lo hi) (integer_range lo hi)
Lists-integer_range lo hi =
    let n = extent lo hi in (
      Distinct-integers lo n,
      (λ z h. let up = extent_up lo hi (omega (arith, ints, h.0, h.1)) in In-integers lo n z h.0 (omega (arith, ints, up, h.1))),
      (λ z h.
          let low = In-integers_low lo n z h in
          let high = In-integers_high lo n z h in
          by_lt_z lo hi
          (λ ahead. let up = extent_up lo hi (omega (arith, ints)) in (low, omega (arith, ints)))
          (λ behind. let none = extent_none lo hi behind in absurd (omega (arith, ints)))),
    )

-- a pair stands in the list where its parts stand in theirs
pub In-pairs_of : {X Y : Type 0} (x : X) (y : Y) (xs : List X) (ys : List Y) → In x xs → In y ys → In {X = X × Y} (x, y) (pairs_of xs ys)
In-pairs_of x y [] ys h k = absurd h
In-pairs_of {X} {Y} x y (a ∷ xs) ys (inl e) k =
    let P : X → Type 0 = λ z. In {X = X × Y} (x, y) (map (λ v. (z, v)) ys) in
    In-append_left (x, y) (map (λ v. (a, v)) ys) (pairs_of xs ys) (subst P (sym e) (In-map (λ v. (x, v)) y ys k))
In-pairs_of x y (a ∷ xs) ys (inr h) k =
    In-append_right (x, y) (map (λ v. (a, v)) ys) (pairs_of xs ys) (In-pairs_of x y xs ys h k)

-- the first of a pair stands in the first list
pub In-pairs_of_first : {X Y : Type 0} (p : X × Y) (xs : List X) (ys : List Y) → In p (pairs_of xs ys) → In p.0 xs
In-pairs_of_first p [] ys h = absurd h
In-pairs_of_first p (a ∷ xs) ys h = elim (In-append_cases p (map (λ v. (a, v)) ys) (pairs_of xs ys) h) [
  | inl k ↦ (let s = In-map_source (λ v. (a, v)) p ys k in inl (ap (λ q. q.0) s.1.1))
  | inr k ↦ inr (In-pairs_of_first p xs ys k)
]

-- the second of a pair stands in the second list
pub In-pairs_of_second : {X Y : Type 0} (p : X × Y) (xs : List X) (ys : List Y) → In p (pairs_of xs ys) → In p.1 ys
In-pairs_of_second p [] ys h = absurd h
In-pairs_of_second {X} {Y} p (a ∷ xs) ys h = elim (In-append_cases p (map (λ v. (a, v)) ys) (pairs_of xs ys) h) [
  | inl k ↦ (let s = In-map_source (λ v. (a, v)) p ys k in let P : Y → Type 0 = λ z. In z ys in subst P (ap (λ q. q.1) s.1.1) s.1.0)
  | inr k ↦ In-pairs_of_second p xs ys k
]

Distinct-pairs_of : {X Y : Type 0} (xs : List X) (ys : List Y) → Distinct xs → Distinct ys → Distinct (pairs_of xs ys)
Distinct-pairs_of [] ys d e = tt
Distinct-pairs_of {X} {Y} (a ∷ xs) ys d e =
    Distinct-append (map (λ v. (a, v)) ys) (pairs_of xs ys)
    (Distinct-map (λ v. (a, v)) ys (λ u v h k q. ap (λ p. p.1) q) e)
    (Distinct-pairs_of xs ys d.1 e)
    (λ p h k. let s = In-map_source (λ v. (a, v)) p ys h in let P : X → Type 0 = λ z. In z xs in
    d.0 (subst P (sym (ap (λ q. q.0) s.1.1)) (In-pairs_of_first p xs ys k)))

-- the pairs of two sets
pub Lists-pairs_of : {X Y : Type 0} (P : X → Type 0) (Q : Y → Type 0) (xs : List X) (ys : List Y) → Lists P xs → Lists Q ys
    → Lists {X = X × Y} (λ p. P p.0 × Q p.1) (pairs_of xs ys)
Lists-pairs_of P Q xs ys l m = (
  Distinct-pairs_of xs ys l.0 m.0,
  (λ p h. In-pairs_of p.0 p.1 xs ys (l.1 p.0 h.0) (m.1 p.1 h.1)),
  (λ p h. (l.2 p.0 (In-pairs_of_first p xs ys h), m.2 p.1 (In-pairs_of_second p xs ys h))),
)

-- there are as many pairs as the product of the lengths
pub length-pairs_of : {X Y : Type 0} (xs : List X) (ys : List Y) → length (pairs_of xs ys) ≡ length xs * length ys
length-pairs_of [] ys = omega arith
length-pairs_of (a ∷ xs) ys =
    length-append (map (λ v. (a, v)) ys) (pairs_of xs ys) ∙ ap (λ n. n + length (pairs_of xs ys)) (length-map ys (λ v. (a, v)))
    ∙ ap (λ n. length ys + n) (length-pairs_of xs ys) ∙ omega arith

-- the integer points of a rectangle
pub Lists-rectangle : (xlo xhi ylo yhi : ℤ)
    → Lists {X = ℤ × ℤ} (λ p. IsBetween xlo xhi p.0 × IsBetween ylo yhi p.1) (pairs_of (integer_range xlo xhi) (integer_range ylo yhi))
Lists-rectangle xlo xhi ylo yhi =
    Lists-pairs_of (IsBetween xlo xhi) (IsBetween ylo yhi) (integer_range xlo xhi) (integer_range ylo yhi) (Lists-integer_range xlo xhi)
    (Lists-integer_range ylo yhi)
