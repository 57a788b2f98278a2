-- The words that `clap` is asked about, and the command line that it is told of.
use Rattle.std.specs.Prelude.{◌||◌, ℕ, ℤ, pos, negsuc, Bool, true, List, drop, codes, if◌then◌else◌, is_some, Option, Some, None, option_and_then, unwrap_or}
use Rattle.std.specs.Str.{bytes_eq}
use Rattle.clap.specs.Simple.{App, new_app, new_rule, on_top, with_rule}
use Rattle.clap.specs.Walk.{Rule}
use Rattle.clap.specs.declared.builder.action.ArgAction.TheVariants.{Set, SetTrue}
use Rattle.run_words.specs.RunWords.{as_budget, begins_with_budget, budget_of}
use Rattle.run_words.specs.declared.limits.TheConstants.{DEFAULT_BUDGET}

-- a number of either sign, as a budget
abbrev pub signed_budget : ℤ → Option ℕ
signed_budget (pos n) = as_budget n
signed_budget (negsuc n) = None

-- what follows `--budget=` in a word, or the word where it does not begin so
abbrev pub digits_in : List ℕ → List ℕ
digits_in word = if begins_with_budget word then drop 9 word else word

-- a word that stands in some words of the form
abbrev pub is_known : List ℕ → Bool
is_known word = bytes_eq word (codes "--quiet") || bytes_eq word (codes "--budget") || is_some (budget_of (digits_in word))

abbrev pub quiet_rule : Rule
quiet_rule = record (new_rule (codes "quiet")) { long = Some (codes "quiet"); action = Some SetTrue }

abbrev pub budget_rule : Rule
budget_rule = record (new_rule (codes "budget")) { long = Some (codes "budget"); action = Some Set }

-- no word names the program, and there is no flag for help
abbrev pub bare_command : App
bare_command = on_top (λ s. record s { no_binary_name = true; disable_help_flag = true }) (new_app (codes "magex"))

abbrev pub command_line : App
command_line = with_rule (with_rule bare_command quiet_rule) budget_rule

-- the budget of the text that stands for it, if there is one
abbrev pub budget_told : Option (List ℕ) → ℕ
budget_told text = unwrap_or (option_and_then budget_of text) DEFAULT_BUDGET
