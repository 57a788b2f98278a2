-- Sums of a weight over a finite set.
use Rattle.std.specs.Prelude.{◌≡◌, Bool, if◌then◌else◌, ℤ, pos, ◌+ℤ◌, List, [], ◌∷◌}
use Rattle.finite_sets.specs.Lists.{Lists}

-- the sum of the weights of a list's things
abbrev pub sum_on : {X : Type 0} → (X → ℤ) → List X → ℤ
sum_on w [] = pos 0
sum_on w (x ∷ xs) = w x +ℤ sum_on w xs

-- the things with P are finitely many, and n is the sum of their weights
abbrev pub Total : {X : Type 0} → (X → Type 0) → (X → ℤ) → ℤ → Type 0
Total {X} P w n = (xs : List X) × (Lists P xs × (sum_on w xs ≡ n))

-- 1 where the test holds, else 0: the weight that counts
abbrev pub one_if : Bool → ℤ
one_if holds = if holds then pos 1 else pos 0
