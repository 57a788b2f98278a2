-- The names, letters and numbers of a sim text.
use Rattle.std.specs.Prelude.{◌==◌, ◌&&◌, ◌||◌, nat_le, ℕ, ℤ, neg_ℤ, int_lt, Bool, if◌then◌else◌, List, [], ◌∷◌, length, Result, Ok, Err}
use Rattle.std.specs.Char.{is_ascii_graphic}
use Rattle.std.specs.List.{list_all}
use Rattle.text_scan.specs.Numbers.{wide_of}
use Rattle.text_scan.specs.declared.numeral.NumFault.{NumFault}
use Rattle.text_scan.specs.declared.numeral.NumFault.TheVariants.{Empty, Digit, Range as TooWide}
use Rattle.text_form.specs.SaidLines.{and_then}
use Rattle.sim_text.specs.declared.faults.SimFault.{SimFault}
use Rattle.sim_text.specs.declared.faults.SimFault.TheVariants.{BadLine, Letter, Range, Name}
use Rattle.sim_text.specs.declared.limits.TheConstants.{LONGEST_SIM_NAME, CAP_EDGE}

-- one or more bytes from `!` to `~`, and no more than a name may have
abbrev pub is_sim_name : List ℕ → Bool
is_sim_name word = nat_le 1 (length word) && nat_le (length word) LONGEST_SIM_NAME && list_all is_ascii_graphic word

-- the name that a word is
abbrev pub name_in : List ℕ → Result (List ℕ) SimFault
name_in word = if is_sim_name word then Ok word else Err Name

-- e, n, p or d
abbrev pub is_letter : ℕ → Bool
is_letter byte = byte == 101 || byte == 110 || byte == 112 || byte == 100

-- the letter of a transistor that a word is
abbrev pub letter_in : List ℕ → Result ℕ SimFault
letter_in (byte ∷ []) = if is_letter byte then Ok byte else Err Letter
letter_in _ = Err Letter

-- a word that is no number makes a bad line
abbrev pub or_bad_line : Result ℤ NumFault → Result ℤ SimFault
or_bad_line (Ok z) = Ok z
or_bad_line (Err TooWide) = Err Range
or_bad_line (Err Empty) = Err BadLine
or_bad_line (Err Digit) = Err BadLine

-- the number that a word writes: one of 128 bits with sign
abbrev pub number_in : List ℕ → Result ℤ SimFault
number_in word = or_bad_line (wide_of word)

-- a capacitance is below its edge in absolute value
abbrev pub is_within_edge : ℤ → Bool
is_within_edge z = int_lt (neg_ℤ CAP_EDGE) z && int_lt z CAP_EDGE

abbrev pub within_edge : ℤ → Result ℤ SimFault
within_edge z = if is_within_edge z then Ok z else Err Range

-- the capacitance that a word writes
abbrev pub cap_in : List ℕ → Result ℤ SimFault
cap_in word = and_then (number_in word) within_edge

-- the numbers that four words write, of which the first faulty one counts
abbrev pub four_numbers_in : List ℕ → List ℕ → List ℕ → List ℕ → Result (List ℤ) SimFault
four_numbers_in l w x y =
    and_then (number_in l) (λ l. and_then (number_in w) (λ w. and_then (number_in x) (λ x. and_then (number_in y) (λ y. Ok (l ∷ w ∷ x ∷ y ∷ [])))))
