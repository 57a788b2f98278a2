-- The words at the front of a line.
use Rattle.std.specs.Prelude.{◌&&◌, ◌∷◌, ℕ, zero, suc, ℤ, Bool, true, false, if◌then◌else◌, List, [], Option, Some, None}
use Rattle.script_lines.specs.declared.limits.TheConstants.{LEAST_NUMBER, GREATEST_NUMBER}
use Rattle.script_lines.specs.Arguments.{ArgumentKind, is_formed, is_number, number_in, is_between}

-- there is a first word, and it is of this form
abbrev pub begins_with : ArgumentKind → List (List ℕ) → Bool
begins_with kind [] = false
begins_with kind (word ∷ words) = is_formed kind word

-- the first words, so many, are numbers
abbrev pub begins_with_numbers : ℕ → List (List ℕ) → Bool
begins_with_numbers zero words = true
begins_with_numbers (suc count) [] = false
begins_with_numbers (suc count) (word ∷ words) = is_number word && begins_with_numbers count words

-- the number, where it is in the range that all numbers of a line have
abbrev pub fitting : ℤ → Option ℤ
fitting z = if is_between LEAST_NUMBER GREATEST_NUMBER z then Some z else None

abbrev pub is_fitting : List ℕ → Bool
is_fitting word = is_between LEAST_NUMBER GREATEST_NUMBER (number_in word)
