-- Texts each line of which says something by itself, whatever stands before it.
use Rattle.std.specs.Prelude.{◌≡◌, ◌+◌, ℕ, List, [], ◌∷◌, Result, Ok, Err, ⊤}

-- one step and then another, of which each may be a fault: the first fault counts
abbrev pub and_then : {A B F : Type 0} → Result A F → (A → Result B F) → Result B F
and_then (Ok x) next = next x
and_then (Err fault) next = Err fault

-- the step of such a text: what a line says is added to the state
abbrev pub saying : {S X F : Type 0} → (ℕ → List ℕ → Result X F) → (S → X → S) → ℕ → S → List ℕ → Result S F
saying says add number state line = and_then (says number line) (λ said. Ok (add state said))

-- each of these lines, the first of which has the number, says this
abbrev pub AreSaid : {X F : Type 0} → (ℕ → List ℕ → Result X F) → ℕ → List (List ℕ) → List X → Type 0
AreSaid says number [] [] = ⊤
AreSaid says number [] (x ∷ said) = ⊥
AreSaid says number (line ∷ lines) [] = ⊥
AreSaid says number (line ∷ lines) (x ∷ said) = (says number line ≡ Ok x) × AreSaid says (number + 1) lines said
