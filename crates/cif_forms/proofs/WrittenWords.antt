-- The words of written commands, and that written commands are unmarked.
use Rattle.cif_forms.proofs.Common.{◌≡◌, ℕ, suc, ◌+◌, ◌<◌, ◌^◌, ◌==◌, ◌&&◌, ◌||◌, Bool, true, false, not, cond, List, [], ◌∷◌, ◌++◌, length, map}
use Rattle.cif_forms.proofs.Common.{refl, sym, ap, ◌∙◌, arith, append-nil, inl, inr, is_ascii_digit, is_ascii_uppercase, w32, int_max, int_min}
use Rattle.cif_forms.proofs.Common.{list_all, flat_map, onto_first, AllByRecursion, all_ascii_digits, and_from, and_parts, cases_Bool, line_of}
use Rattle.cif_forms.proofs.Common.{all_ascii_digits-natural_text, decimal-std, HIGHEST, LOWEST, Number, is_mark, is_numeral, AreUnmarked}
use Rattle.cif_forms.proofs.Common.{is_unmarked, is_unmarked_text}
use Rattle.std.proofs.Common.{ℤ, pos, negsuc, FitsSigned}
use lib.Signed.{mag}
use Rattle.std.proofs.lemmas.Bool.{eqb-true}
use Rattle.std.proofs.lemmas.Bool.Decides.{nat_tests}
use Rattle.std.proofs.lemmas.List.{map-append}
use Rattle.std.proofs.lemmas.Fmt.{decimal_digit}
use Rattle.text_scan.specs.Decimal.{decimal, natural_text}
use Rattle.text_scan.specs.Numbers.{integer_of}
use Rattle.text_scan.proofs.DecimalLemmas.{integer_of-decimal}
use Rattle.text_scan.proofs.WrittenLemmas.{IsWord-decimal}
use Rattle.cif_forms.specs.Words.{held, letter_of, word_of, words_in, words_of}
use Rattle.cif_forms.proofs.TextLaws.{words_in-join}
use Rattle.cif_forms.proofs.WordLaws.{numeral-is_shown, shown, words_in-numeral}
use Rattle.cif_forms.proofs.WrittenTexts.{unmarked-append}

-- ---- words

-- the words of a line are those of its parts, in order
pub words_of-line_of : (parts : List (List ℕ)) → words_of (line_of parts) ≡ flat_map words_of parts
unfolding words_of
words_of-line_of [] = refl
words_of-line_of (part ∷ []) = sym (append-nil (map word_of (words_in part)))
words_of-line_of (part ∷ next ∷ parts) =
    let rest = line_of (next ∷ parts) in
    ap (map word_of) (words_in-join part rest)
    ∙ (map-append word_of (words_in part) (words_in rest) ∙ ap (λ words. map word_of (words_in part) ++ words) (words_of-line_of (next ∷ parts)))

-- ---- numbers

digits-numerals : (digits : List ℕ) → all_ascii_digits digits ≡ true → list_all is_numeral digits ≡ true
digits-numerals [] all = refl
digits-numerals (byte ∷ digits) all =
    let parts = and_parts (is_ascii_digit byte) (all_ascii_digits digits) all in
    and_from (is_numeral byte) (list_all is_numeral digits) (ap (λ is. is || (byte == 45)) parts.0) (digits-numerals digits parts.1)

decimal-numerals : (z : ℤ) → list_all is_numeral (decimal z) ≡ true
unfolding decimal
decimal-numerals (pos n) = digits-numerals (natural_text n) (all_ascii_digits-natural_text n)
decimal-numerals (negsuc n) = digits-numerals (natural_text (suc n)) (all_ascii_digits-natural_text (suc n))

numerals-one : (byte : ℕ) (bytes : List ℕ) → list_all is_numeral (byte ∷ bytes) ≡ true → words_in (byte ∷ bytes) ≡ (byte ∷ bytes) ∷ []
numerals-one byte [] all = words_in-numeral byte [] (and_parts (is_numeral byte) true all).0
numerals-one byte (next ∷ bytes) all =
    let parts = and_parts (is_numeral byte) (list_all is_numeral (next ∷ bytes)) all in
    let more = and_parts (is_numeral next) (list_all is_numeral bytes) parts.1 in
    let rest = words_in (next ∷ bytes) in
    shown byte (next ∷ bytes) (numeral-is_shown byte parts.0)
    ∙ (ap (λ is. cond is (onto_first byte rest) ((byte ∷ []) ∷ rest)) (and_from (is_numeral byte) (is_numeral next) parts.0 more.0)
    ∙ ap (onto_first byte) (numerals-one next bytes parts.1))

letter_if : (digit minus upper mark : Bool) → upper ≡ true → not (digit || minus || upper || mark) ≡ false
letter_if false false false mark is = absurd (cc)
letter_if _ _ _ mark is = refl

none_behind : (numeral : Bool) (one other : List (List ℕ)) → cond (numeral && false) one other ≡ other
none_behind true one other = refl
none_behind false one other = refl

letter-one : (byte : ℕ) → is_ascii_uppercase byte ≡ true → words_in (byte ∷ []) ≡ (byte ∷ []) ∷ []
letter-one byte upper =
    shown byte [] (letter_if (is_ascii_digit byte) (byte == 45) (is_ascii_uppercase byte) (is_mark byte) upper)
    ∙ none_behind (is_numeral byte) (onto_first byte []) ((byte ∷ []) ∷ [])

numeral-no_letter : (byte : ℕ) → is_numeral byte ≡ true → is_ascii_uppercase byte ≡ false
numeral-no_letter byte numeral = grind (arith, nat_tests)

numerals-word : (byte : ℕ) (bytes : List ℕ) → list_all is_numeral (byte ∷ bytes) ≡ true → word_of (byte ∷ bytes) ≡ held (integer_of (byte ∷ bytes))
numerals-word byte [] all =
    ap (λ is. cond is (letter_of byte) (held (integer_of (byte ∷ [])))) (numeral-no_letter byte (and_parts (is_numeral byte) true all).0)
numerals-word byte (next ∷ bytes) all = refl

words_of-numerals : (word : List ℕ) → 0 < length word → list_all is_numeral word ≡ true → words_of word ≡ held (integer_of word) ∷ []
unfolding words_of
words_of-numerals [] some all = absurd (omega arith)
words_of-numerals (byte ∷ bytes) some all = ap (map word_of) (numerals-one byte bytes all) ∙ ap (λ word. word ∷ []) (numerals-word byte bytes all)

within : (z : ℤ) → mag z < 2 ^ 31 → int_max (int_min z HIGHEST) LOWEST ≡ z
within z small = grind arith

held-decimal : (z : ℤ) → FitsSigned w32 z → held (integer_of (decimal z)) ≡ Number z
held-decimal z fits = ap held (integer_of-decimal z) ∙ ap Number (within z fits.sfits)

-- the text of a number of 32 bits is one word, which is the number
pub words_of-decimal : (z : ℤ) → FitsSigned w32 z → words_of (decimal z) ≡ Number z ∷ []
words_of-decimal z fits = words_of-numerals (decimal z) (IsWord-decimal z).some (decimal-numerals z) ∙ ap (λ word. word ∷ []) (held-decimal z fits)

-- an upper-case letter is a word by itself
pub words_of-letter : (byte : ℕ) → is_ascii_uppercase byte ≡ true → words_of (byte ∷ []) ≡ letter_of byte ∷ []
unfolding words_of
words_of-letter byte upper =
    ap (map word_of) (letter-one byte upper) ∙ ap (λ is. cond is (letter_of byte) (held (integer_of (byte ∷ []))) ∷ []) upper

-- the text of a number of one digit
pub decimal-digit : (n : ℕ) → n < 10 → decimal (pos n) ≡ (48 + n) ∷ []
decimal-digit n small = decimal-std (pos n) (omega arith) ∙ decimal_digit n small

-- the texts of numbers
pub words_of-decimals : (numbers : List ℤ) → AllByRecursion (FitsSigned w32) numbers → flat_map words_of (map decimal numbers) ≡ map Number numbers
words_of-decimals [] fit = refl
words_of-decimals (z ∷ numbers) fit =
    ap (λ words. words ++ flat_map words_of (map decimal numbers)) (words_of-decimal z fit.0)
    ∙ ap (λ words. Number z ∷ words) (words_of-decimals numbers fit.1)

-- ---- unmarked bytes

other_kind : (kind : ℕ → Bool) (mark byte : ℕ) → kind mark ≡ false → kind byte ≡ true → (byte == mark) ≡ true → ⊥
other_kind kind mark byte none is same =
    let bad : false ≡ true = sym none ∙ (ap kind (sym (eqb-true byte mark same)) ∙ is) in
    cc

-- bytes of a kind that has no mark
unmarked-kind : (kind : ℕ → Bool) → kind 40 ≡ false → kind 41 ≡ false → kind 59 ≡ false → (byte : ℕ) → kind byte ≡ true → is_unmarked byte ≡ true
unmarked-kind kind no_start no_close no_end byte is =
    elim (cases_Bool (byte == 40)) [
      | inl starts ↦ absurd (other_kind kind 40 byte no_start is starts)
      | inr no_40 ↦
          elim (cases_Bool (byte == 41)) [
            | inl closes ↦ absurd (other_kind kind 41 byte no_close is closes)
            | inr no_41 ↦
                elim (cases_Bool (byte == 59)) [
                  | inl ends ↦ absurd (other_kind kind 59 byte no_end is ends)
                  | inr no_59 ↦
                      ap (λ test. not (test || (byte == 41) || (byte == 59))) no_40
                      ∙ (ap (λ test. not (test || (byte == 59))) no_41 ∙ ap not no_59)
                ]
          ]
    ]

-- the same of all bytes of such a kind
pub unmarked-kinds : (kind : ℕ → Bool) → kind 40 ≡ false → kind 41 ≡ false → kind 59 ≡ false
    → (bytes : List ℕ) → list_all kind bytes ≡ true → is_unmarked_text bytes ≡ true
unmarked-kinds kind no_start no_close no_end [] all = refl
unmarked-kinds kind no_start no_close no_end (byte ∷ bytes) all =
    let parts = and_parts (kind byte) (list_all kind bytes) all in
    and_from (is_unmarked byte) (is_unmarked_text bytes)
    (unmarked-kind kind no_start no_close no_end byte parts.0) (unmarked-kinds kind no_start no_close no_end bytes parts.1)

-- a line of unmarked words
pub unmarked-line_of : (parts : List (List ℕ)) → AreUnmarked parts → is_unmarked_text (line_of parts) ≡ true
unmarked-line_of [] unmarked = refl
unmarked-line_of (part ∷ []) unmarked = unmarked.0
unmarked-line_of (part ∷ next ∷ parts) unmarked = unmarked-append part (32 ∷ line_of (next ∷ parts)) unmarked.0 (unmarked-line_of (next ∷ parts) unmarked.1)

-- the text of a number
pub unmarked-decimal : (z : ℤ) → is_unmarked_text (decimal z) ≡ true
unmarked-decimal z = unmarked-kinds is_numeral refl refl refl (decimal z) (decimal-numerals z)

-- the texts of numbers
pub unmarked-decimals : (numbers : List ℤ) → AreUnmarked (map decimal numbers)
unmarked-decimals [] = tt
unmarked-decimals (z ∷ numbers) = (unmarked-decimal z, unmarked-decimals numbers)
