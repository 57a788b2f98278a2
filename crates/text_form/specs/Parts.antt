-- How a text is read part by part, where each part knows the line that it begins on: a statement that spans lines is one such part.
use Rattle.std.specs.Prelude.{◌≡◌, ◌++◌, ℕ, List, [], ◌∷◌, Result, Ok, Err}
use Rattle.text_form.specs.declared.reading.At.{At}
use Rattle.text_form.specs.Folds.{unless_faulty}

-- The state after these parts; or the line of the first faulty part, with its fault.
abbrev pub first_faulty_part_or : {S X F : Type 0} → (X → ℕ) → (S → X → Result S F) → S → List X → Result S (At F)
first_faulty_part_or line_of step state [] = Ok state
first_faulty_part_or line_of step state (part ∷ parts) =
    unless_faulty (line_of part) (step state part) (λ next. first_faulty_part_or line_of step next parts)

-- The parts before it are without fault, and it has the fault, read in the state that they leave.
pub record IsFirstFaultyPart {S X F : Type 0} (line_of : X → ℕ) (step : S → X → Result S F) (start : S) (parts : List X) (at : At F) : Type 0 where
  pub before : List X
  pub part : X
  pub after : List X
  pub state : S
  pub parts_are : parts ≡ before ++ part ∷ after
  pub fine : first_faulty_part_or line_of step start before ≡ Ok state
  pub placed : at.line ≡ line_of part
  pub faulty : step state part ≡ Err at.fault
