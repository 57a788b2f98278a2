-- The classes that links between numbers make.
use Rattle.std.specs.Prelude.{◌≡◌, ◌↔◌, ℕ, ◌<◌, List, [], ◌∷◌, ◌++◌, length, slice_index}
use Rattle.finite_sets.specs.Lists.{In}
use Rattle.finite_sets.specs.Chain.{Chain, EitherWay}

-- a chain of links, each of them taken either way, leads from the one number to the other
abbrev pub IsJoined : (ℕ → ℕ → Type 0) → ℕ → ℕ → Type 0
IsJoined Link = Chain (EitherWay Link)

-- two of the numbers have one mark exactly where a chain of links joins them
abbrev pub Divides : List ℕ → (ℕ → ℕ → Type 0) → Type 0
Divides marks Link =
    (a b : ℕ) → a < length marks → b < length marks → (slice_index marks a ≡ slice_index marks b) ↔ IsJoined Link a b

-- the numbers are one of the pairs
abbrev pub IsPair : List (ℕ × ℕ) → ℕ → ℕ → Type 0
IsPair pairs a b = In {X = ℕ × ℕ} (a, b) pairs

-- whatever pairs divide the old marks, those and one more divide the new
abbrev pub AddsPair : List ℕ → List ℕ → ℕ → ℕ → Type 0
AddsPair old new a b = (pairs : List (ℕ × ℕ)) → Divides old (IsPair pairs) → Divides new (IsPair (pairs ++ (a, b) ∷ []))

-- whatever pairs divide the old marks divide the new
abbrev pub KeepsPairs : List ℕ → List ℕ → Type 0
KeepsPairs old new = (pairs : List (ℕ × ℕ)) → Divides old (IsPair pairs) → Divides new (IsPair pairs)
