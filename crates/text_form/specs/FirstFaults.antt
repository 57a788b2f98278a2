-- Which line is the first faulty one.
use Rattle.std.specs.Prelude.{◌≡◌, ◌+◌, ℕ, List, ◌∷◌, ◌++◌, length, Result, Ok, Err}
use Rattle.text_form.specs.declared.reading.At.{At}
use Rattle.text_form.specs.Folds.{first_fault_or}

-- The lines before it are without fault, and it has the fault, read in the state that they leave. The first of all has the number.
pub record IsFirstFault {S F : Type 0} (step : ℕ → S → List ℕ → Result S F) (number : ℕ) (start : S) (lines : List (List ℕ)) (at : At F)
    : Type 0 where
  pub before : List (List ℕ)
  pub line : List ℕ
  pub after : List (List ℕ)
  pub state : S
  pub lines_are : lines ≡ before ++ line ∷ after
  pub fine : first_fault_or step number start before ≡ Ok state
  pub numbered : at.line ≡ number + length before
  pub faulty : step (number + length before) state line ≡ Err at.fault
