-- The number that a word writes in decimal.
use Rattle.std.specs.Prelude.{ℕ, ◌^◌, ◌==◌, Bool, ◌&&◌, List, length, drop, ℤ, pos, neg_ℤ, int_le, int_lt, Result, Ok, Err, if◌then◌else◌}
use Rattle.std.specs.Str.{all_ascii_digits}
use Rattle.std.specs.Str.Parse.{starts_with_minus, digits_value}
use Rattle.text_scan.specs.declared.numeral.NumFault.{NumFault}
use Rattle.text_scan.specs.declared.numeral.NumFault.TheVariants.{Empty, Digit, Range}

-- the number that digits write: `Empty` where there is no byte, and `Digit` where some byte is no digit
unfoldable pub natural_of : List ℕ → Result ℕ NumFault
natural_of digits = if length digits == 0 then Err Empty else (if all_ascii_digits digits then Ok (digits_value 10 digits) else Err Digit)

-- what follows the minus of a word, or the word where it has none
abbrev pub without_minus : List ℕ → List ℕ
without_minus word = if starts_with_minus word then drop 1 word else word

abbrev pub with_sign : Bool → ℕ → ℤ
with_sign negative n = if negative then neg_ℤ (pos n) else pos n

abbrev pub signed : Bool → Result ℕ NumFault → Result ℤ NumFault
signed negative (Ok n) = Ok (with_sign negative n)
signed negative (Err fault) = Err fault

-- the number that a word writes, of any size: a minus may stand before the digits
abbrev pub integer_of : List ℕ → Result ℤ NumFault
integer_of word = signed (starts_with_minus word) (natural_of (without_minus word))

-- the number where it is at least -limit and below limit, and else `Range`
abbrev pub within : ℕ → ℤ → Result ℤ NumFault
within limit z = if int_le (neg_ℤ (pos limit)) z && int_lt z (pos limit) then Ok z else Err Range

abbrev pub in_range : ℕ → Result ℤ NumFault → Result ℤ NumFault
in_range limit (Ok z) = within limit z
in_range limit (Err fault) = Err fault

-- what a word gives as a number of 64 bits
unfoldable pub number_of : List ℕ → Result ℤ NumFault
number_of word = in_range (2 ^ 63) (integer_of word)

-- what a word gives as a number of 128 bits
unfoldable pub wide_of : List ℕ → Result ℤ NumFault
wide_of word = in_range (2 ^ 127) (integer_of word)
