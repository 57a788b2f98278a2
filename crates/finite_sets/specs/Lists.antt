-- Finite sets as lists: the list that has each thing with a fact once and nothing else.
use Rattle.std.specs.Prelude.{◌≡◌, List, [], ◌∷◌, ◌⊎◌}

-- the thing stands in the list
abbrev pub In : {X : Type 0} → X → List X → Type 0
In x [] = ⊥
In x (y ∷ ys) = (y ≡ x) ⊎ In x ys

-- nothing stands in the list twice
abbrev pub Distinct : {X : Type 0} → List X → Type 0
Distinct [] = Unit {0}
Distinct (x ∷ xs) = (In x xs → ⊥) × Distinct xs

-- the list has each thing with P once and nothing else
abbrev pub Lists : {X : Type 0} → (X → Type 0) → List X → Type 0
Lists {X} P xs = Distinct xs × ((x : X) → P x → In x xs) × ((x : X) → In x xs → P x)
