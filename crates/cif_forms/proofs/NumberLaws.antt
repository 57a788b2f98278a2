-- Numbers that are held within reach of 32 bits.
use Rattle.cif_forms.proofs.Common.{◌≡◌, ℕ, suc, ◌≤◌, ◌==◌, ◌^◌, ◌&&◌, Bool, true, false, cond, List, length, Result, Ok, Err, sym, ap, ◌∙◌, arith}
use Rattle.cif_forms.proofs.Common.{inl, inr, int_max, int_min, all_ascii_digits, cases_Bool, cases_lt, Empty, Digit, Number, HIGHEST, LOWEST}
use Rattle.std.proofs.Common.{◌≢◌, zero}
use Rattle.std.proofs.Common.{ℤ, pos, neg_ℤ, int_le, int_lt}
use lib.Signed.{mag}
use Rattle.std.specs.Str.Parse.{starts_with_minus, digits_value}
use Rattle.text_scan.proofs.NumberLemmas.{within_ok}
use Rattle.text_scan.specs.declared.numeral.NumFault.{NumFault}
use Rattle.text_scan.specs.declared.numeral.NumFault.TheVariants.{Range}
use Rattle.text_scan.specs.Numbers.{natural_of, without_minus, with_sign, signed, integer_of, within, in_range, number_of}
use Rattle.cif_forms.specs.declared.words.CifWord.TheVariants.{Broken}
use Rattle.cif_forms.specs.Words.{held, past_all}

in_range-ok : (r : Result ℤ NumFault) (z : ℤ) → in_range (2 ^ 63) r ≡ Ok z → r ≡ Ok z
in_range-ok (Ok y) z e =
    elim (cases_Bool (int_le (neg_ℤ (pos (2 ^ 63))) y && int_lt y (pos (2 ^ 63)))) [
      | inl inside ↦ sym (ap (λ test. cond test (Ok y) (Err Range)) inside) ∙ e
      | inr outside ↦ absurd (let no : Err Range ≡ Ok z = sym (ap (λ test. cond test (Ok y) (Err Range)) outside) ∙ e in cc)
    ]
in_range-ok (Err fault) z e = e

-- a word that is read as a number of 64 bits
pub held-ok : (word : List ℕ) (z : ℤ) → number_of word ≡ Ok z → held (integer_of word) ≡ Number (int_max (int_min z HIGHEST) LOWEST)
unfolding number_of
held-ok word z e = ap held (in_range-ok (integer_of word) z e)

-- digits are read as a number, or are none
natural_of-cases : (digits : List ℕ) → natural_of digits ≢ Err Range
unfolding natural_of
natural_of-cases digits e =
    elim (cases_Bool (length digits == 0)) [
      | inl none ↦
          let whole = cond (all_ascii_digits digits) (Ok (digits_value 10 digits)) (Err Digit) in
          absurd (let bad : Err Empty ≡ Err Range = sym (ap (λ test. cond test (Err Empty) whole) none) ∙ e in cc)
      | inr some ↦
          let next = sym (ap (λ test. cond test (Err Empty) (cond (all_ascii_digits digits) (Ok (digits_value 10 digits)) (Err Digit))) some) ∙ e in
          elim (cases_Bool (all_ascii_digits digits)) [
            | inl all ↦
                let value = digits_value 10 digits in
                absurd (let bad : Ok value ≡ Err Range = sym (ap (λ test. cond test (Ok value) (Err Digit)) all) ∙ next in cc)
            | inr fault ↦
                absurd (let bad : Err Digit ≡ Err Range = sym (ap (λ test. cond test (Ok (digits_value 10 digits)) (Err Digit)) fault) ∙ next in cc)
          ]
    ]

mag-with_sign : (negative : Bool) (n : ℕ) → mag (with_sign negative n) ≤ n
mag-with_sign false n = omega arith
mag-with_sign true zero = omega arith
mag-with_sign true (suc n) = omega arith

-- a number past 64 bits has the greatest or the least number that is held, by its sign
outside : (negative : Bool) (n : ℕ) → 2 ^ 63 ≤ n → int_max (int_min (with_sign negative n) HIGHEST) LOWEST ≡ past_all negative
outside true n large = grind arith
outside false n large = grind arith

large-outside : (negative : Bool) (n : ℕ) → within (2 ^ 63) (with_sign negative n) ≡ Err Range → 2 ^ 63 ≤ n
large-outside negative n e =
    elim (cases_lt n (2 ^ 63)) [
      | inl below ↦
          let small = within_ok (2 ^ 63) (with_sign negative n) (omega (arith, mag-with_sign negative n, below)) in
          absurd (let bad : Ok (with_sign negative n) ≡ Err Range = sym small ∙ e in cc)
      | inr above ↦ above
    ]

past-cases : (negative : Bool) (r : Result ℕ NumFault) → r ≢ Err Range → in_range (2 ^ 63) (signed negative r) ≡ Err Range
    → held (signed negative r) ≡ Number (past_all negative)
past-cases negative (Err fault) other e = absurd (other (let same : fault ≡ Range = cc in ap Err same))
past-cases negative (Ok n) other e = ap Number (outside negative n (large-outside negative n e))

pub held-past : (word : List ℕ) → number_of word ≡ Err Range → held (integer_of word) ≡ Number (past_all (starts_with_minus word))
unfolding number_of
held-past word e = past-cases (starts_with_minus word) (natural_of (without_minus word)) (natural_of-cases (without_minus word)) e

in_range-err : (r : Result ℤ NumFault) (fault : NumFault) → fault ≢ Range → in_range (2 ^ 63) r ≡ Err fault → r ≡ Err fault
in_range-err (Ok y) fault other e =
    elim (cases_Bool (int_le (neg_ℤ (pos (2 ^ 63))) y && int_lt y (pos (2 ^ 63)))) [
      | inl inside ↦ absurd (let no : Ok y ≡ Err fault = sym (ap (λ test. cond test (Ok y) (Err Range)) inside) ∙ e in cc)
      | inr outside ↦ absurd (let is : Err Range ≡ Err fault = sym (ap (λ test. cond test (Ok y) (Err Range)) outside) ∙ e in other (cc))
    ]
in_range-err (Err fault) same other e = e

pub held-none : (word : List ℕ) (fault : NumFault) → fault ≢ Range → number_of word ≡ Err fault → held (integer_of word) ≡ Broken
unfolding number_of
held-none word fault other e = ap held (in_range-err (integer_of word) fault other e)
