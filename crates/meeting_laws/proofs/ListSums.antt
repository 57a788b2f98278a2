-- Sums over lists of which few things count, and over lists that are alike.
use Rattle.meeting_laws.proofs.Common.{◌≡◌, ◌≢◌, ℕ, ℤ, pos, List, slice_get, sym, ap, ◌∙◌, arith, Some, ints, sum_on}
use Rattle.std.proofs.Common.{zero, suc, ◌+ℤ◌, [], ◌∷◌, map, refl}
use Rattle.tech_model.proofs.FiniteSets.Sums.{sum_on-map, sum_on-zero}

-- weights that agree at each position of the list
pub sum_by_position : {X : Type 0} (v w : X → ℤ) (xs : List X) → ((position : ℕ) (x : X) → slice_get xs position ≡ Some x → v x ≡ w x)
    → sum_on v xs ≡ sum_on w xs
sum_by_position v w [] agree = refl
sum_by_position v w (x ∷ xs) agree =
    ap (λ (n : ℤ). n +ℤ sum_on v xs) (agree zero x refl)
    ∙ ap (λ (n : ℤ). w x +ℤ n) (sum_by_position v w xs (λ position y there. agree (suc position) y there))

-- where nothing of the list counts the sum is 0
pub sum_of_none : {X : Type 0} (w : X → ℤ) (xs : List X) → ((position : ℕ) (x : X) → slice_get xs position ≡ Some x → w x ≡ pos 0)
    → sum_on w xs ≡ pos 0
sum_of_none w xs none = sum_by_position w (λ x. pos 0) xs none ∙ sum_on-zero xs

-- where one thing of the list counts, by its position, the sum is that
pub sum_of_one : {X : Type 0} (w : X → ℤ) (xs : List X) (position : ℕ) (x : X) → slice_get xs position ≡ Some x
    → ((other : ℕ) (y : X) → slice_get xs other ≡ Some y → other ≢ position → w y ≡ pos 0) → sum_on w xs ≡ w x
sum_of_one w [] position x there others = cc
sum_of_one {X} w (y ∷ xs) zero x there others =
    let same : y ≡ x = cc in
    ap (λ (n : ℤ). w y +ℤ n) (sum_of_none w xs (λ other z is. others (suc other) z is (λ no. omega (arith, no))))
    ∙ omega (arith, ints) ∙ ap w same
sum_of_one w (y ∷ xs) (suc position) x there others =
    ap (λ (n : ℤ). n +ℤ sum_on w xs) (others zero y refl (λ no. omega (arith, no)))
    ∙ ap (λ (n : ℤ). pos 0 +ℤ n)
    (sum_of_one w xs position x there (λ other z is differ. others (suc other) z is (λ same. differ (omega (arith, same)))))
    ∙ omega (arith, ints)

-- what counts by its image has one sum over lists of one image
pub same_sums : {X Y : Type 0} (f : X → Y) (w : Y → ℤ) (xs ys : List X) → map f ys ≡ map f xs
    → sum_on (λ x. w (f x)) ys ≡ sum_on (λ x. w (f x)) xs
same_sums f w xs ys images = sym (sum_on-map f w ys) ∙ ap (sum_on w) images ∙ sum_on-map f w xs
