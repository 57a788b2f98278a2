-- The least thing with a fact.

-- a has P, and stands before or at each thing that has it
abbrev pub IsLeast : {X : Type 0} → (X → X → Type 0) → (X → Type 0) → X → Type 0
IsLeast {X} le P a = P a × ((b : X) → P b → le a b)
