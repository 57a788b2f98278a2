-- The words after the program's name: at most one `--quiet`, and at most one `--budget N` or `--budget=N`, in any order.
use Rattle.std.specs.Prelude.{◌&&◌, nat_le, ℕ, Bool, true, false, List, [], ◌∷◌, take, drop, codes, if◌then◌else◌, Option, Some, None}
use Rattle.std.specs.Prelude.{is_some, option_and_then, option_map, unwrap_or, Result, Ok, Err}
use Rattle.std.specs.Str.{bytes_eq}
use Rattle.text_scan.specs.Numbers.{natural_of}
use Rattle.text_scan.specs.declared.numeral.NumFault.{NumFault}
use Rattle.run_words.specs.declared.limits.TheConstants.{DEFAULT_BUDGET, GREATEST_BUDGET}
use Rattle.run_words.specs.declared.words.RunWords.{RunWords}

-- the number, if it is from 1 to the greatest budget
abbrev pub as_budget : ℕ → Option ℕ
as_budget n = if nat_le 1 n && nat_le n GREATEST_BUDGET then Some n else None

abbrev pub in_budget : Result ℕ NumFault → Option ℕ
in_budget (Ok n) = as_budget n
in_budget (Err fault) = None

-- the budget that a word of digits alone writes
abbrev pub budget_of : List ℕ → Option ℕ
budget_of digits = in_budget (natural_of digits)

-- What the words so far have given, and whether the next word is to be the number of a budget.
pub record Given : Type 0 where
  pub quiet : Bool
  pub budget : Option ℕ
  pub is_open : Bool

abbrev pub nothing_given : Given
nothing_given = record { quiet = false; budget = None; is_open = false }

-- a second `--quiet` is refused
abbrev pub with_quiet : Given → Option Given
with_quiet given = if given.quiet then None else Some (record given { quiet = true })

-- what is no budget is refused, and so is a second budget
abbrev pub with_budget : Given → Option ℕ → Option Given
with_budget given None = None
with_budget given (Some budget) = if is_some given.budget then None else Some (record given { budget = Some budget; is_open = false })

abbrev pub begins_with_budget : List ℕ → Bool
begins_with_budget word = bytes_eq (take 9 word) (codes "--budget=")

abbrev pub with_word : Given → List ℕ → Option Given
with_word given word =
    if given.is_open then with_budget given (budget_of word)
    else if bytes_eq word (codes "--quiet") then with_quiet given
    else if bytes_eq word (codes "--budget") then Some (record given { is_open = true })
    else if begins_with_budget word then with_budget given (budget_of (drop 9 word))
    else None

-- what the words give behind what was given before them, if they are of the form
abbrev pub given_by : Given → List (List ℕ) → Option Given
given_by given [] = if given.is_open then None else Some given
given_by given (word ∷ words) = option_and_then (λ next. given_by next words) (with_word given word)

-- what is not given has its default
abbrev pub run_of : Given → RunWords
run_of given = record { quiet = given.quiet; budget = unwrap_or given.budget DEFAULT_BUDGET }

-- what the words ask for, if they are of the form
unfoldable pub words_of : List (List ℕ) → Option RunWords
words_of words = option_map run_of (given_by nothing_given words)
