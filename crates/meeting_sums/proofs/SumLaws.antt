-- Sums that count under tests, over pieces, parts and contacts.
use Rattle.meeting_sums.proofs.Common.{◌≡◌, ℕ, ◌+◌, ◌<◌, pos, ℤ, ◌+ℤ◌, ◌-ℤ◌, ◌*ℤ◌, Bool, true, false, cond, ◌&&◌, List, [], ◌∷◌, map, length, get_or}
use Rattle.meeting_sums.proofs.Common.{inl, inr, refl, sym, ◌∙◌, ap, arith, range_with_len, ints, get_or-map, length-map, length-range_with_len}
use Rattle.meeting_sums.proofs.Common.{get_or-range_with_len, In, Lists, sum_on, Total, one_if, sum_on-sub, Total-add, Total-at, Total-from_list}
use Rattle.std.proofs.lemmas.List.{ext_get_or}
use Rattle.finite_sets.proofs.Sums.{sum_on-add, sum_on-map, sum_on-swap, sum_on-zero}

-- a sum over a list, by its positions
pub sum_by_positions : {X : Type 0} (w : X → ℤ) (xs : List X) (d : X) → sum_on w xs ≡ sum_on (λ (k : ℕ). w (get_or xs k d)) (range_with_len 0 (length xs))
sum_by_positions {X} w xs d =
    ap (sum_on w) (sym listing) ∙ sum_on-map at w positions
  where
    positions : List ℕ
    positions = range_with_len 0 (length xs)

    at : ℕ → X
    at k = get_or xs k d

    long : length (range_with_len 0 (length xs)) ≡ length xs
    long = length-range_with_len 0 (length xs)

    listing : map (λ (k : ℕ). get_or xs k d) (range_with_len 0 (length xs)) ≡ xs
    listing = ext_get_or d (map (λ (k : ℕ). get_or xs k d) (range_with_len 0 (length xs))) xs
        (length-map (range_with_len 0 (length xs)) (λ (k : ℕ). get_or xs k d) ∙ long)
        (λ i below. let many = length-map (range_with_len 0 (length xs)) (λ (k : ℕ). get_or xs k d) in
        let inside : i < length xs = omega (arith, below, many, long) in
        let is = get_or-range_with_len 0 (length xs) i 0 inside in
        let same : 0 + i ≡ i = omega arith in
        get_or-map (λ (k : ℕ). get_or xs k d) (range_with_len 0 (length xs)) i 0 d (omega (arith, inside, long))
        ∙ ap (λ (k : ℕ). get_or xs k d) (is ∙ same))

-- totals of weights that are sums
pub Total-sum : {X L : Type 0} (P : X → Type 0) (xs : List X) → Lists P xs → (w : L → X → ℤ) (n : L → ℤ) (labels : List L)
    → ((label : L) → In label labels → Total P (w label) (n label)) → Total P (λ x. sum_on (λ label. w label x) labels) (sum_on n labels)
Total-sum P xs lists w n [] each = Total-at P (λ x. pos 0) (sum_on (λ x. pos 0) xs) (pos 0) (sum_on-zero xs) (Total-from_list P (λ x. pos 0) xs lists)
Total-sum P xs lists w n (label ∷ labels) each =
    Total-add P (w label) (λ x. sum_on (λ l. w l x) labels) (n label) (sum_on n labels) (each label (inl refl))
    (Total-sum P xs lists w n labels (λ l i. each l (inr i)))

-- a difference of what counts in all and in each of some, where a test holds
pub gate_beyond : (g flat : Bool) (tests : ℕ → Bool) (s : ℤ) (positions : List ℕ)
    → cond (g && flat) s (pos 0) -ℤ sum_on (λ k. cond (g && tests k) s (pos 0)) positions
    ≡ cond g (cond flat s (pos 0) -ℤ sum_on (λ k. cond (tests k) s (pos 0)) positions) (pos 0)
gate_beyond true flat tests s positions = refl
gate_beyond false flat tests s positions = ap (λ (n : ℤ). pos 0 -ℤ n) (sum_on-zero positions) ∙ none
  where
    none : pos 0 -ℤ pos 0 ≡ pos 0
    none = omega (arith, ints)

-- the same of two tests
pub gate_both : (p q : Bool) (flat : ℤ) (w : ℕ → ℤ) (positions : List ℕ)
    → (cond p flat (pos 0) +ℤ cond q flat (pos 0)) -ℤ sum_on (λ k. cond p (w k) (pos 0) +ℤ cond q (w k) (pos 0)) positions
    ≡ cond p (flat -ℤ sum_on w positions) (pos 0) +ℤ cond q (flat -ℤ sum_on w positions) (pos 0)
gate_both p q flat w positions =
    ap (λ (n : ℤ). (cond p flat (pos 0) +ℤ cond q flat (pos 0)) -ℤ n)
    (sum_on-add (λ k. cond p (w k) (pos 0)) (λ k. cond q (w k) (pos 0)) positions)
    ∙ four (cond p flat (pos 0)) (cond q flat (pos 0)) (sum_on (λ k. cond p (w k) (pos 0)) positions) (sum_on (λ k. cond q (w k) (pos 0)) positions)
    ∙ (λ k. one p k +ℤ one q k)
  where
    four : (a b c d : ℤ) → (a +ℤ b) -ℤ (c +ℤ d) ≡ (a -ℤ c) +ℤ (b -ℤ d)
    four a b c d = omega (arith, ints)

    none : pos 0 -ℤ pos 0 ≡ pos 0
    none = omega (arith, ints)

    one : (t : Bool) → cond t flat (pos 0) -ℤ sum_on (λ k. cond t (w k) (pos 0)) positions ≡ cond t (flat -ℤ sum_on w positions) (pos 0)
    one true = refl
    one false = ap (λ (n : ℤ). pos 0 -ℤ n) (sum_on-zero positions) ∙ none

-- what a contact takes off, by the groups of its two sides
pub gate_shared : (p q a b : Bool) (v : ℤ)
    → (one_if ((p && a) && b) +ℤ one_if ((q && b) && a)) *ℤ v ≡ cond p (cond (a && b) v (pos 0)) (pos 0) +ℤ cond q (cond (a && b) v (pos 0)) (pos 0)
gate_shared true true true true v = omega (arith, ints)
gate_shared true true true false v = omega (arith, ints)
gate_shared true true false true v = omega (arith, ints)
gate_shared true true false false v = omega (arith, ints)
gate_shared true false true true v = omega (arith, ints)
gate_shared true false true false v = omega (arith, ints)
gate_shared true false false true v = omega (arith, ints)
gate_shared true false false false v = omega (arith, ints)
gate_shared false true true true v = omega (arith, ints)
gate_shared false true true false v = omega (arith, ints)
gate_shared false true false true v = omega (arith, ints)
gate_shared false true false false v = omega (arith, ints)
gate_shared false false true true v = omega (arith, ints)
gate_shared false false true false v = omega (arith, ints)
gate_shared false false false true v = omega (arith, ints)
gate_shared false false false false v = omega (arith, ints)

-- a sum less the sums of others, term by term
pub sum_less_sums : {X : Type 0} (v : X → ℤ) (w : ℕ → X → ℤ) (xs : List X) (positions : List ℕ)
    → sum_on v xs -ℤ sum_on (λ k. sum_on (w k) xs) positions ≡ sum_on (λ x. v x -ℤ sum_on (λ k. w k x) positions) xs
sum_less_sums v w xs positions =
    ap (λ (n : ℤ). sum_on v xs -ℤ n) (sum_on-swap w positions xs) ∙ sym (sum_on-sub v (λ x. sum_on (λ k. w k x) positions) xs)
