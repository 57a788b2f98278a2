-- Words that are numbers of any size, and those of 64 bits.
use Rattle.script_lines.proofs.Common.{◌≡◌, ℕ, ℤ, pos, Bool, true, false, List, length, arith, refl, Result, Ok, Err, None, ◌&&◌, if◌then◌else◌}
use Rattle.script_lines.proofs.Common.{common_steps, ints, Empty, Digit, is_number, number_in, fitting}
use Rattle.std.proofs.Common.{◌^◌, neg_ℤ, int_lt}
use Rattle.std.specs.Prelude.{int_le, ◌==◌, is_ok}
use Rattle.std.specs.Result.{result_unwrap_or}
use Rattle.std.specs.Str.{all_ascii_digits}
use Rattle.std.specs.Str.Parse.{digits_value, starts_with_minus}
use Rattle.text_scan.specs.declared.numeral.NumFault.{NumFault}
use Rattle.text_scan.specs.declared.numeral.NumFault.TheVariants.{Range}
use Rattle.text_scan.specs.Numbers.{natural_of, integer_of, number_of, in_range, without_minus, signed}

abbrev chosen : Bool → ℤ → Result ℤ NumFault
chosen b y = if b then Ok y else Err Range

chosen-ok : (b : Bool) (y z : ℤ) → chosen b y ≡ Ok z → y ≡ z
chosen-ok true y z e = cc
chosen-ok false y z e = cc

chosen-err : (b : Bool) (y : ℤ) → chosen b y ≡ Err Range → b ≡ false
chosen-err true y e = cc
chosen-err false y e = refl

chosen-other : (b : Bool) (y : ℤ) (fault : NumFault) → chosen b y ≡ Err fault → fault ≡ Range
chosen-other true y fault e = cc
chosen-other false y fault e = cc

-- a number out of 64 bits is out of 32
fitting-wide : (y : ℤ) → (int_le (neg_ℤ (pos (2 ^ 63))) y && int_lt y (pos (2 ^ 63))) ≡ false → fitting y ≡ None
fitting-wide y e = grind (arith, ints, common_steps)

held : (r : Result ℤ NumFault) (z : ℤ) → in_range (2 ^ 63) r ≡ Ok z → (is_ok r ≡ true) × (result_unwrap_or r (pos 0) ≡ z)
held (Ok y) z e = (refl, chosen-ok (int_le (neg_ℤ (pos (2 ^ 63))) y && int_lt y (pos (2 ^ 63))) y z e)
held (Err fault) z e = cc

-- a word that writes a number of 64 bits
pub number_of-formed : (word : List ℕ) (z : ℤ) → number_of word ≡ Ok z → is_number word ≡ true
unfolding number_of
number_of-formed word z e = (held (integer_of word) z e).0

pub number_of-value : (word : List ℕ) (z : ℤ) → number_of word ≡ Ok z → number_in word ≡ z
unfolding number_of
number_of-value word z e = (held (integer_of word) z e).1

outside : (r : Result ℤ NumFault) → (r ≡ Err Range → ⊥) → in_range (2 ^ 63) r ≡ Err Range → (is_ok r ≡ true) × (fitting (result_unwrap_or r (pos 0)) ≡ None)
outside (Ok y) known e = (refl, fitting-wide y (chosen-err (int_le (neg_ℤ (pos (2 ^ 63))) y && int_lt y (pos (2 ^ 63))) y e))
outside (Err fault) known e = absurd (known (cc))

abbrev natural_from : Bool → Bool → ℕ → Result ℕ NumFault
natural_from none digits n = if none then Err Empty else (if digits then Ok n else Err Digit)

no_range : (none digits : Bool) (n : ℕ) → natural_from none digits n ≡ Err Range → ⊥
no_range true digits n e = cc
no_range false true n e = cc
no_range false false n e = cc

natural_of-range : (digits : List ℕ) → natural_of digits ≡ Err Range → ⊥
unfolding natural_of
natural_of-range digits e = no_range (length digits == 0) (all_ascii_digits digits) (digits_value 10 digits) e

signed-range : (negative : Bool) (r : Result ℕ NumFault) → (r ≡ Err Range → ⊥) → signed negative r ≡ Err Range → ⊥
signed-range negative (Ok n) known e = cc
signed-range negative (Err fault) known e = known (cc)

integer_of-range : (word : List ℕ) → integer_of word ≡ Err Range → ⊥
integer_of-range word e =
    signed-range (starts_with_minus word) (natural_of (without_minus word)) (natural_of-range (without_minus word)) e

-- a word that writes a number, out of 64 bits
pub number_of-range : (word : List ℕ) → number_of word ≡ Err Range → (is_number word ≡ true) × (fitting (number_in word) ≡ None)
unfolding number_of
number_of-range word e = outside (integer_of word) (integer_of-range word) e

not_held : (r : Result ℤ NumFault) (fault : NumFault) → (fault ≡ Range → ⊥) → in_range (2 ^ 63) r ≡ Err fault → is_ok r ≡ false
not_held (Ok y) fault other e = absurd (other (chosen-other (int_le (neg_ℤ (pos (2 ^ 63))) y && int_lt y (pos (2 ^ 63))) y fault e))
not_held (Err found) fault other e = refl

-- a word that writes no number
pub number_of-other : (word : List ℕ) (fault : NumFault) → (fault ≡ Range → ⊥) → number_of word ≡ Err fault → is_number word ≡ false
unfolding number_of
number_of-other word fault other e = not_held (integer_of word) fault other e
