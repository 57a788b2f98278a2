-- The number of a word, digit by digit.
use Rattle.std.proofs.Common.{◌≡◌, ℕ, ◌+◌, ◌-◌, ◌*◌, ◌^◌, ◌<◌, ◌≤◌, min, Bool, true, false, cond, zero, suc, ◌⊎◌, negsuc, List, length, get_or, take, ℤ, pos}
use Rattle.std.proofs.Common.{Result, Ok, Err, refl, sym, ap, ◌∙◌, arith, inl, inr}
use Rattle.std.specs.Char.{is_ascii_digit, digit_value}
use Rattle.std.specs.Result.{result_map_both}
use Rattle.std.specs.Str.{all_ascii_digits}
use Rattle.std.specs.Str.Parse.{starts_with_minus, digits_value}
use Rattle.std.proofs.lemmas.Bool.{cases_lt, ne_eqb, eq-eqb, lt-ltb, le-ltb, false_from_ne_true, true≢false}
use Rattle.std.proofs.lemmas.Bool.Decides.{Decides-by_and, nat_tests}
use Rattle.std.proofs.lemmas.Grind.{common_steps}
use Rattle.std.proofs.lemmas.Int.Digits.{digits_value_more}
use lib.Signed.{mag}
use Rattle.text_scan.specs.declared.numeral.NumFault.{NumFault}
use Rattle.text_scan.specs.declared.numeral.NumFault.TheVariants.{Empty, Digit, Range}
use Rattle.text_scan.specs.Numbers.{natural_of, without_minus, with_sign, signed, integer_of, within, in_range, number_of, wide_of}

-- a digit's byte is 48 more than its value
pub digit_is : (byte : ℕ) → is_ascii_digit byte ≡ true → (48 ≤ byte) × (byte < 58) × (digit_value byte ≡ byte - 48)
digit_is byte digit = grind (arith, nat_tests)

pub all_ascii_digits_more : (digits : List ℕ) (i : ℕ) → i < length digits → all_ascii_digits (take i digits) ≡ true
    → is_ascii_digit (get_or digits i 0) ≡ true → all_ascii_digits (take (i + 1) digits) ≡ true
all_ascii_digits_more digits i inside before digit =
    let tells = λ (bytes : List ℕ). Decides-by_and is_ascii_digit (λ b. is_ascii_digit b ≡ true) all_ascii_digits (λ b. (λ e. e, λ e. e)) refl (λ _ _. refl)
    bytes in
    let so_far = (tells (take i digits)).0 before in
    (tells (take (i + 1) digits)).1 (λ k d h.
    elim (cases_lt k i) [
      | inl below ↦ let x = so_far k d (grind (arith, common_steps)) in grind (arith, common_steps)
      | inr here ↦
          grind (arith, common_steps)
    ])

pub all_ascii_digits_fails : (digits : List ℕ) (i : ℕ) → i < length digits → is_ascii_digit (get_or digits i 0) ≡ false → all_ascii_digits digits ≡ false
all_ascii_digits_fails digits i inside fault =
    let tells = Decides-by_and is_ascii_digit (λ b. is_ascii_digit b ≡ true) all_ascii_digits (λ b. (λ e. e, λ e. e)) refl (λ _ _. refl) digits in
    false_from_ne_true (all_ascii_digits digits) (λ all. true≢false (sym (tells.0 all i 0 inside) ∙ fault))

-- one more digit, where the number is held at a top
pub capped_more : (digits : List ℕ) (i value top : ℕ) → i < length digits → is_ascii_digit (get_or digits i 0) ≡ true
    → value ≡ min (digits_value 10 (take i digits)) top →
    min (min (value * 10) top + (get_or digits i 0 - 48)) top ≡ min (digits_value 10 (take (i + 1) digits)) top
capped_more digits i value top inside digit so_far =
    let byte = get_or digits i 0 in
    omega (arith, digits_value_more 10 digits i inside, digit_is byte digit)

-- ---- a word of digits alone

pub natural_of-empty : (digits : List ℕ) → length digits ≡ 0 → natural_of digits ≡ Err Empty
unfolding natural_of
natural_of-empty digits none =
    ap (λ test. cond test (Err Empty) (cond (all_ascii_digits digits) (Ok (digits_value 10 digits)) (Err Digit))) (eq-eqb (length digits) 0 none)

natural_of-some : (digits : List ℕ) → 0 < length digits → natural_of digits ≡ cond (all_ascii_digits digits) (Ok (digits_value 10 digits)) (Err Digit)
unfolding natural_of
natural_of-some digits some =
    ap (λ test. cond test (Err Empty) (cond (all_ascii_digits digits) (Ok (digits_value 10 digits)) (Err Digit))) (ne_eqb (length digits) 0 (λ e. omega arith))

pub natural_of-fault : (digits : List ℕ) → 0 < length digits → all_ascii_digits digits ≡ false → natural_of digits ≡ Err Digit
natural_of-fault digits some fault =
    natural_of-some digits some ∙ ap (λ test. cond test (Ok (digits_value 10 digits)) (Err Digit)) fault

pub natural_of-digits : (digits : List ℕ) → 0 < length digits → all_ascii_digits digits ≡ true → natural_of digits ≡ Ok (digits_value 10 digits)
natural_of-digits digits some all =
    natural_of-some digits some ∙ ap (λ test. cond test (Ok (digits_value 10 digits)) (Err Digit)) all

-- ---- the range

within-cases : (limit : ℕ) (z : ℤ) → 0 < limit → ((mag z < limit) × (within limit z ≡ Ok z)) ⊎ ((limit ≤ mag z) × (within limit z ≡ Err Range))
within-cases zero z some = absurd (omega arith)
within-cases (suc low) (pos n) some =
    elim (cases_lt n (suc low)) [
      | inl below ↦ inl (below, ap (λ test. cond test (Ok (pos n)) (Err Range)) (lt-ltb n (suc low) below))
      | inr above ↦ inr (above, ap (λ test. cond test (Ok (pos n)) (Err Range)) (le-ltb n (suc low) above))
    ]
within-cases (suc low) (negsuc n) some =
    elim (cases_lt n (suc low)) [
      | inl below ↦ inl (below, grind (arith, nat_tests))
      | inr above ↦ inr (above, grind (arith, nat_tests))
    ]

pub within_ok : (limit : ℕ) (z : ℤ) → mag z < limit → within limit z ≡ Ok z
within_ok limit z below =
    elim (within-cases limit z (omega arith)) [ inl inside ↦ inside.1 | inr outside ↦ absurd (omega (arith, outside.0)) ]

pub within_outside : (limit : ℕ) (z : ℤ) → 0 < limit → limit ≤ mag z → within limit z ≡ Err Range
within_outside limit z some above =
    elim (within-cases limit z some) [ inl inside ↦ absurd (omega (arith, inside.0)) | inr outside ↦ outside.1 ]

mag-with_sign : (negative : Bool) (n : ℕ) → n ≤ mag (with_sign negative n) + 1
mag-with_sign false n = omega arith
mag-with_sign true zero = omega arith
mag-with_sign true (suc n) = omega arith

-- a number held at the largest of 128 bits is as much outside as the number
within-capped : (negative : Bool) (n : ℕ) → within (2 ^ 127) (with_sign negative (min n (2 ^ 128 - 1))) ≡ within (2 ^ 127) (with_sign negative n)
within-capped negative n =
    let top : ℕ = 2 ^ 128 - 1 in
    elim (cases_lt n (2 ^ 128)) [
      | inl below ↦ let same : min n (2 ^ 128 - 1) ≡ n = omega arith in ap (λ m. within (2 ^ 127) (with_sign negative m)) same
      | inr above ↦
          within_outside (2 ^ 127) (with_sign negative (min n (2 ^ 128 - 1))) (omega arith) (omega (arith, mag-with_sign negative (min n (2 ^ 128 - 1))))
          ∙ sym (within_outside (2 ^ 127) (with_sign negative n) (omega arith) (omega (arith, mag-with_sign negative n)))
    ]

-- a number held at the largest of 128 bits
abbrev pub capped : Result ℕ NumFault → Result ℕ NumFault
capped r = result_map_both (λ n. min n (2 ^ 128 - 1)) (λ fault. fault) r

in_range-capped_ok : (negative : Bool) (r : Result ℕ NumFault) (n : ℕ) → capped r ≡ Ok n
    → in_range (2 ^ 127) (signed negative r) ≡ within (2 ^ 127) (with_sign negative n)
in_range-capped_ok negative (Ok m) n e =
    let same : min m (2 ^ 128 - 1) ≡ n = cc in
    sym (within-capped negative m) ∙ ap (λ k. within (2 ^ 127) (with_sign negative k)) same
in_range-capped_ok negative (Err fault) n e = absurd (cc)

in_range-capped_err : (negative : Bool) (r : Result ℕ NumFault) (fault : NumFault) → capped r ≡ Err fault → in_range (2 ^ 127) (signed negative r) ≡ Err fault
in_range-capped_err negative (Ok m) fault e = absurd (cc)
in_range-capped_err negative (Err other) fault e = cc

pub wide_of-ok : (word : List ℕ) (n : ℕ) → capped (natural_of (without_minus word)) ≡ Ok n
    → wide_of word ≡ within (2 ^ 127) (with_sign (starts_with_minus word) n)
unfolding wide_of
wide_of-ok word n e = in_range-capped_ok (starts_with_minus word) (natural_of (without_minus word)) n e

pub wide_of-err : (word : List ℕ) (fault : NumFault) → capped (natural_of (without_minus word)) ≡ Err fault → wide_of word ≡ Err fault
unfolding wide_of
wide_of-err word fault e = in_range-capped_err (starts_with_minus word) (natural_of (without_minus word)) fault e

-- ---- 64 bits, by way of 128

narrow-ok : (r : Result ℤ NumFault) (z : ℤ) → in_range (2 ^ 127) r ≡ Ok z → in_range (2 ^ 63) r ≡ within (2 ^ 63) z
narrow-ok (Ok y) z e =
    elim (within-cases (2 ^ 127) y (omega arith)) [
      | inl inside ↦ let same : y ≡ z = cc in ap (within (2 ^ 63)) same
      | inr outside ↦ absurd (cc)
    ]
narrow-ok (Err fault) z e = absurd (cc)

narrow-err : (r : Result ℤ NumFault) (fault : NumFault) → in_range (2 ^ 127) r ≡ Err fault → in_range (2 ^ 63) r ≡ Err fault
narrow-err (Ok y) fault e =
    elim (within-cases (2 ^ 127) y (omega arith)) [
      | inl inside ↦ absurd (cc)
      | inr outside ↦ within_outside (2 ^ 63) y (omega arith) (omega (arith, outside.0)) ∙ (sym outside.1 ∙ e)
    ]
narrow-err (Err other) fault e = e

pub number_of-ok : (word : List ℕ) (z : ℤ) → wide_of word ≡ Ok z → number_of word ≡ within (2 ^ 63) z
unfolding number_of wide_of
number_of-ok word z e = narrow-ok (integer_of word) z e

pub number_of-err : (word : List ℕ) (fault : NumFault) → wide_of word ≡ Err fault → number_of word ≡ Err fault
unfolding number_of wide_of
number_of-err word fault e = narrow-err (integer_of word) fault e
