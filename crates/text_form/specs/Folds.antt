-- How a text is read line by line: each line changes what was read so far, and the first faulty line refuses the text.
use Rattle.std.specs.Prelude.{◌+◌, ℕ, max, List, [], ◌∷◌, length, Result, Ok, Err}
use Rattle.text_form.specs.declared.reading.At.{At}

-- the fault, at the line of this number
abbrev pub fault_at : {F : Type 0} → ℕ → F → At F
fault_at number fault = record { line = number; fault = fault }

-- what comes of a line of this number and of those behind it: its fault, or what the rest makes of the state that it leaves
abbrev pub unless_faulty : {S R F : Type 0} → ℕ → Result S F → (S → Result R (At F)) → Result R (At F)
unless_faulty number (Err fault) rest = Err (fault_at number fault)
unless_faulty number (Ok state) rest = rest state

-- The state after these lines, the first of which has the number; or the first faulty line, with its fault.
abbrev pub first_fault_or : {S F : Type 0} → (ℕ → S → List ℕ → Result S F) → ℕ → S → List (List ℕ) → Result S (At F)
first_fault_or step number state [] = Ok state
first_fault_or step number state (line ∷ lines) =
    unless_faulty number (step number state line) (λ next. first_fault_or step (number + 1) next lines)

-- the number of the last line, which is 1 in a text without a line
abbrev pub last_number : List (List ℕ) → ℕ
last_number lines = max (length lines) 1

-- what the end of a text gives, whose last line has the number
abbrev pub ended_at : {R F : Type 0} → ℕ → Result R F → Result R (At F)
ended_at number (Err fault) = Err (fault_at number fault)
ended_at number (Ok whole) = Ok whole

-- what the lines gave, and then the end: what is wrong with the whole stands at the last line
abbrev pub finished : {S R F : Type 0} → (S → Result R F) → ℕ → Result S (At F) → Result R (At F)
finished finish last (Err at) = Err at
finished finish last (Ok state) = ended_at last (finish state)

-- What a text of these lines gives; or its first faulty line, with that line's first fault.
abbrev pub text_state : {S R F : Type 0} → (ℕ → S → List ℕ → Result S F) → (S → Result R F) → S → List (List ℕ) → Result R (At F)
text_state step finish start lines = finished finish (last_number lines) (first_fault_or step 1 start lines)
