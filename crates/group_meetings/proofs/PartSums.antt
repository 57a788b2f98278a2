-- Sums over the positions of a list.
use Rattle.group_meetings.proofs.Common.{◌≡◌, ◌+◌, ℕ, zero, suc, ℤ, ◌+ℤ◌, List, [], ◌∷◌, length, slice_get, refl, ap, ◌∙◌, arith, Some, sum_on}
use Rattle.std.specs.List.{range_with_len}

-- a sum over positions is one over the list
pub sum_of_positions : {X : Type 0} (g : ℕ → ℤ) (f : X → ℤ) (start : ℕ) (xs : List X)
    → ((position : ℕ) (x : X) → slice_get xs position ≡ Some x → g (start + position) ≡ f x)
    → sum_on g (range_with_len start (length xs)) ≡ sum_on f xs
sum_of_positions g f start [] agree = refl
sum_of_positions g f start (x ∷ xs) agree =
    let here : g start ≡ f x = ap g (omega arith) ∙ agree zero x refl in
    ap (λ (n : ℤ). n +ℤ sum_on g (range_with_len (start + 1) (length xs))) here
    ∙ ap (λ (n : ℤ). f x +ℤ n)
    (sum_of_positions g f (start + 1) xs (λ position y there. ap g (omega arith) ∙ agree (suc position) y there))
