-- The decimal text of a number, and that it is read as the number.
use Rattle.std.proofs.Common.{◌≡◌, ℕ, zero, suc, ◌+◌, ◌*◌, ◌/◌, ◌%◌, ◌^◌, ◌<◌, ◌≤◌, true, false, cond, List, [], ◌∷◌, ◌++◌, length, drop, map, ℤ, pos, negsuc}
use Rattle.std.proofs.Common.{FitsSigned, w64, Result, Ok, refl, sym, ap, ◌∙◌, arith}
use Rattle.std.specs.Char.{is_ascii_digit, digit_value}
use Rattle.std.specs.Fmt.{signed_decimal, decimal as unsigned_decimal}
use Rattle.std.specs.Int.{w128}
use Rattle.std.specs.Int.Digits.{digits_of, AllBelowBase, number_from_digits_after}
use Rattle.std.specs.Str.{all_ascii_digits}
use Rattle.std.specs.Str.Parse.{starts_with_minus, digits_value, digits_value_after}
use Rattle.std.proofs.lemmas.Bool.{ne_eqb, and_from, and_parts}
use Rattle.std.proofs.lemmas.Bool.Decides.{nat_tests}
use Rattle.std.proofs.lemmas.Fmt.{decimal_by_steps_wide}
use Rattle.std.proofs.lemmas.Int.Digits.{digits_of_step, number_digits_of, all_below_base_digits_of}
use Rattle.std.proofs.lemmas.List.{length-map, length-append}
use lib.Signed.{mag}
use Rattle.text_scan.specs.declared.numeral.NumFault.{NumFault}
use Rattle.text_scan.specs.Decimal.{natural_text, decimal}
use Rattle.text_scan.specs.Numbers.{natural_of, signed, integer_of, in_range, number_of, wide_of}
use Rattle.text_scan.proofs.NumberLemmas.{digit_is, natural_of-digits, within_ok}

abbrev glyphs : List ℕ → List ℕ
glyphs digits = map (λ digit. 48 + digit) digits

natural_text-zero : natural_text 0 ≡ 48 ∷ []
unfolding natural_text
natural_text-zero = refl

natural_text-some : (n : ℕ) → 0 < n → natural_text n ≡ glyphs (digits_of 10 n)
unfolding natural_text
natural_text-some n some =
    ap (λ test. cond test (48 ∷ []) (glyphs (digits_of 10 n))) (ne_eqb n 0 (λ e. omega arith))

digits_of-one : (n : ℕ) → 0 < n → n < 10 → digits_of 10 n ≡ n ∷ []
digits_of-one n some small =
    let none : n / 10 ≡ 0 = omega arith in
    let last : n % 10 ≡ n = omega arith in
    digits_of_step 10 n (omega arith) some
    ∙ (ap (λ front. digits_of 10 front ++ (n % 10) ∷ []) none ∙ ap (λ digit. digit ∷ []) last)

map-append_one : (digits : List ℕ) (digit : ℕ) → glyphs (digits ++ digit ∷ []) ≡ glyphs digits ++ (48 + digit) ∷ []
map-append_one [] digit = refl
map-append_one (first ∷ digits) digit = ap (λ rest. (48 + first) ∷ rest) (map-append_one digits digit)

natural_text-digit : (n : ℕ) → n < 10 → natural_text n ≡ (48 + n) ∷ []
natural_text-digit zero small = natural_text-zero
natural_text-digit (suc n) small =
    natural_text-some (suc n) (omega arith) ∙ ap glyphs (digits_of-one (suc n) (omega arith) small)

natural_text-step : (n : ℕ) → 10 ≤ n → natural_text n ≡ natural_text (n / 10) ++ (48 + n % 10) ∷ []
natural_text-step n big =
    natural_text-some n (omega arith)
    ∙ (ap glyphs (digits_of_step 10 n (omega arith) (omega arith))
    ∙ (map-append_one (digits_of 10 (n / 10)) (n % 10)
    ∙ ap (λ front. front ++ (48 + n % 10) ∷ []) (sym (natural_text-some (n / 10) (omega arith)))))

-- the text is the one that std prints
natural_text-std : (n : ℕ) → n < 10 ^ 64 → natural_text n ≡ unsigned_decimal n
natural_text-std n small =
    decimal_by_steps_wide (λ m text. natural_text m ≡ text) natural_text-digit
    (λ m text big front. natural_text-step m big ∙ ap (λ f. f ++ (48 + m % 10) ∷ []) front) n small

pub decimal-std : (z : ℤ) → mag z < 2 ^ 127 → decimal z ≡ signed_decimal z
unfolding decimal
decimal-std (pos n) small = natural_text-std n (omega arith)
decimal-std (negsuc n) small = ap (λ text. 45 ∷ text) (natural_text-std (suc n) (omega arith))

-- ---- the text is read as the number

digit_value-glyph : (digit : ℕ) → digit < 10 → digit_value (48 + digit) ≡ digit
digit_value-glyph digit small = grind (arith, nat_tests)

is_ascii_digit-glyph : (digit : ℕ) → digit < 10 → is_ascii_digit (48 + digit) ≡ true
is_ascii_digit-glyph digit small = grind (arith, nat_tests)

all_ascii_digits-glyphs : (digits : List ℕ) → AllBelowBase 10 digits → all_ascii_digits (glyphs digits) ≡ true
all_ascii_digits-glyphs [] small = refl
all_ascii_digits-glyphs (digit ∷ digits) small =
    and_from (is_ascii_digit (48 + digit)) (all_ascii_digits (glyphs digits)) (is_ascii_digit-glyph digit small.0) (all_ascii_digits-glyphs digits small.1)

digits_value-glyphs : (n : ℕ) (digits : List ℕ) → AllBelowBase 10 digits → digits_value_after 10 n (glyphs digits) ≡ number_from_digits_after 10 n digits
digits_value-glyphs n [] small = refl
digits_value-glyphs n (digit ∷ digits) small =
    ap (λ d. digits_value_after 10 (n * 10 + d) (glyphs digits)) (digit_value-glyph digit small.0) ∙ digits_value-glyphs (n * 10 + digit) digits small.1

pub all_ascii_digits-natural_text : (n : ℕ) → all_ascii_digits (natural_text n) ≡ true
all_ascii_digits-natural_text zero = ap all_ascii_digits natural_text-zero
all_ascii_digits-natural_text (suc n) =
    ap all_ascii_digits (natural_text-some (suc n) (omega arith))
    ∙ all_ascii_digits-glyphs (digits_of 10 (suc n)) (all_below_base_digits_of 10 (suc n) (omega arith))

digits_value-natural_text : (n : ℕ) → digits_value 10 (natural_text n) ≡ n
digits_value-natural_text zero = ap (digits_value 10) natural_text-zero
digits_value-natural_text (suc n) =
    ap (digits_value 10) (natural_text-some (suc n) (omega arith))
    ∙ (digits_value-glyphs 0 (digits_of 10 (suc n)) (all_below_base_digits_of 10 (suc n) (omega arith)) ∙ number_digits_of 10 (suc n) (omega arith))

pub length-natural_text : (n : ℕ) → 0 < length (natural_text n)
length-natural_text zero = omega (arith, ap length natural_text-zero)
length-natural_text (suc n) =
    let digits = digits_of_step 10 (suc n) (omega arith) (omega arith) in
    omega (
      arith,
      ap length (natural_text-some (suc n) (omega arith)),
      length-map (digits_of 10 (suc n)) (λ digit. 48 + digit),
      ap length digits,
      length-append (digits_of 10 (suc n / 10)) (suc n % 10 ∷ []),
    )

natural_of-natural_text : (n : ℕ) → natural_of (natural_text n) ≡ Ok n
natural_of-natural_text n =
    natural_of-digits (natural_text n) (length-natural_text n) (all_ascii_digits-natural_text n) ∙ ap Ok (digits_value-natural_text n)

starts_with_minus-digits : (digits : List ℕ) → all_ascii_digits digits ≡ true → starts_with_minus digits ≡ false
starts_with_minus-digits [] all = refl
starts_with_minus-digits (byte ∷ digits) all =
    let first = digit_is byte (and_parts (is_ascii_digit byte) (all_ascii_digits digits) all).0 in
    ne_eqb byte 45 (λ e. omega (arith, first.0))

-- the text of a number is read as the number
pub integer_of-decimal : (z : ℤ) → integer_of (decimal z) ≡ Ok z
unfolding decimal
integer_of-decimal (pos n) =
    let plain = starts_with_minus-digits (natural_text n) (all_ascii_digits-natural_text n) in
    ap (λ minus. signed minus (natural_of (cond minus (drop 1 (natural_text n)) (natural_text n)))) plain ∙ ap (signed false) (natural_of-natural_text n)
integer_of-decimal (negsuc n) = ap (signed true) (natural_of-natural_text (suc n))

pub number_of-decimal : (z : ℤ) → FitsSigned w64 z → number_of (decimal z) ≡ Ok z
unfolding number_of
number_of-decimal z fits = ap (in_range (2 ^ 63)) (integer_of-decimal z) ∙ within_ok (2 ^ 63) z fits.sfits

pub wide_of-decimal : (z : ℤ) → FitsSigned w128 z → wide_of (decimal z) ≡ Ok z
unfolding wide_of
wide_of-decimal z fits = ap (in_range (2 ^ 127)) (integer_of-decimal z) ∙ within_ok (2 ^ 127) z fits.sfits

-- numbers with one text are equal
pub decimal-injective : (y z : ℤ) → decimal y ≡ decimal z → y ≡ z
decimal-injective y z e =
    let same : ◌≡◌ {A = Result ℤ NumFault} (Ok y) (Ok z) = sym (integer_of-decimal y) ∙ (ap integer_of e ∙ integer_of-decimal z) in
    cc
