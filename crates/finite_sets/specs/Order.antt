-- Lexicographic order: by a first number, and where that is equal by something else. Lists in an order.
use Rattle.std.specs.Prelude.{◌≡◌, ◌⊎◌, ℤ, ◌<ℤ◌, List, [], ◌∷◌}

-- x is less than y, or they are equal and the rest holds
abbrev pub Lexicographic : ℤ → ℤ → Type 0 → Type 0
Lexicographic x y rest = (x <ℤ y) ⊎ ((x ≡ y) × rest)

-- each thing of the list stands before the next
abbrev pub IsInOrder : {X : Type 0} → (X → X → Type 0) → List X → Type 0
IsInOrder R [] = Unit {0}
IsInOrder R (x ∷ []) = Unit {0}
IsInOrder R (x ∷ next ∷ xs) = R x next × IsInOrder R (next ∷ xs)
