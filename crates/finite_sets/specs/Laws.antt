-- What the forms are held to: one sum for a set, and chains as an equivalence.
use Rattle.std.specs.Prelude.{◌≡◌, ℤ, ◌+ℤ◌, ◌⊎◌}
use Rattle.finite_sets.specs.Total.{Total}

-- a set has at most one sum of each weight
abbrev pub TotalsAreUnique : {X : Type 0} → (X → Type 0) → Type 0
TotalsAreUnique {X} P = (w : X → ℤ) (m n : ℤ) → Total P w m → Total P w n → m ≡ n

-- the sum over the union of two sets with nothing in common is the sum of their sums
abbrev pub TotalsAdd : {X : Type 0} → (X → Type 0) → (X → Type 0) → Type 0
TotalsAdd {X} P Q = ((x : X) → P x → Q x → ⊥) → (w : X → ℤ) (m n : ℤ) → Total P w m → Total Q w n → Total (λ x. P x ⊎ Q x) w (m +ℤ n)

-- each thing is joined to itself
abbrev pub IsReflexive : {X : Type 0} → (X → X → Type 0) → Type 0
IsReflexive {X} R = (a : X) → R a a

-- what is joined to another is joined from it
abbrev pub IsSymmetric : {X : Type 0} → (X → X → Type 0) → Type 0
IsSymmetric {X} R = (a b : X) → R a b → R b a

-- what is joined by way of a third is joined
abbrev pub IsTransitive : {X : Type 0} → (X → X → Type 0) → Type 0
IsTransitive {X} R = (a b c : X) → R a b → R b c → R a c
