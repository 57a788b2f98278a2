-- What is written is read again.
use Rattle.std.proofs.Common.{◌≡◌, ℕ, suc, ◌-◌, true, false, not, cond, ◌&&◌, ◌||◌, eqb, List, [], ◌∷◌, ◌++◌, length, get_or, take, ℤ, pos, negsuc, refl, sym}
use Rattle.std.proofs.Common.{ap, ◌∙◌, arith, append_assoc, append-nil, map}
use Rattle.std.specs.Char.{is_ascii_digit}
use Rattle.std.specs.List.{All, AllByRecursion, list_all}
use Rattle.std.specs.Str.{all_ascii_digits}
use Rattle.std.proofs.lemmas.Bool.{or_parts, and_parts, not-true}
use Rattle.std.proofs.lemmas.Bool.Decides.{Decides-by_and, nat_tests}
use Rattle.std.proofs.lemmas.List.Elements.{All-append, All-cons}
use Rattle.text_scan.specs.Decimal.{natural_text, decimal}
use Rattle.text_scan.specs.Lines.{lines_of, is_line_feed}
use Rattle.text_scan.specs.Words.{words_of, is_blank}
use Rattle.text_scan.specs.Written.{behind_blanks, is_separator, IsWord, IsLine, line_of, text_of}
use Rattle.text_scan.proofs.DecimalLemmas.{all_ascii_digits-natural_text, length-natural_text}
use Rattle.text_scan.proofs.LineLemmas.{lines_of-nil, lines_of-at}
use Rattle.text_scan.proofs.NumberLemmas.{digit_is}
use Rattle.text_scan.proofs.WordLemmas.{words_of-nil, words_of-at, words_of-one}

no_blank : (word : List ℕ) → IsWord word → All (λ byte. is_blank byte ≡ false) word
no_blank word plain = λ k d inside.
    let byte = get_or word k d in
    (or_parts (is_blank byte) (is_line_feed byte) (or_parts (is_blank byte || is_line_feed byte) (eqb byte 13) (plain.plain k d inside)).0).0

-- the words of a written line are those that it was made of
pub words_of-line_of : (words : List (List ℕ)) → AllByRecursion IsWord words → words_of (line_of words) ≡ words
words_of-line_of [] all = words_of-nil
words_of-line_of (word ∷ []) all = words_of-one word all.0.some (no_blank word all.0)
words_of-line_of (word ∷ next ∷ words) all =
    words_of-at word 32 (line_of (next ∷ words)) all.0.some (no_blank word all.0) refl ∙ ap (λ rest. word ∷ rest) (words_of-line_of (next ∷ words) all.1)

-- the lines of a written text are those that it was made of
pub lines_of-text_of : (lines : List (List ℕ)) → AllByRecursion IsLine lines → lines_of (text_of lines) ≡ lines
lines_of-text_of [] all = lines_of-nil
lines_of-text_of (line ∷ lines) all =
    lines_of-at line (text_of lines) all.0.whole
    ∙ (ap (λ first. first ∷ lines_of (text_of lines)) all.0.kept ∙ ap (λ rest. line ∷ rest) (lines_of-text_of lines all.1))

-- the texts of some lines and of more lines, one behind the other
pub text_of-append : (lines more : List (List ℕ)) → text_of (lines ++ more) ≡ text_of lines ++ text_of more
text_of-append [] more = refl
text_of-append (line ∷ lines) more =
    ap (λ rest. line ++ 10 ∷ rest) (text_of-append lines more) ∙ sym (append_assoc line (10 ∷ text_of lines) (text_of more))

-- a byte that ends no line
abbrev IsPlain : ℕ → Type 0
IsPlain byte = (is_line_feed byte ≡ false) × (eqb byte 13 ≡ false)

plain_word : (word : List ℕ) → IsWord word → All IsPlain word
plain_word word plain = λ k d inside.
    let byte = get_or word k d in
    let parts = or_parts (is_blank byte || is_line_feed byte) (eqb byte 13) (plain.plain k d inside) in
    ((or_parts (is_blank byte) (is_line_feed byte) parts.0).1, parts.1)

plain_line : (words : List (List ℕ)) → AllByRecursion IsWord words → All IsPlain (line_of words)
plain_line [] all = λ k d inside. absurd (omega arith)
plain_line (word ∷ []) all = plain_word word all.0
plain_line (word ∷ next ∷ words) all =
    All-append IsPlain word (32 ∷ line_of (next ∷ words)) (plain_word word all.0)
    (All-cons IsPlain 32 (line_of (next ∷ words)) (refl, refl) (plain_line (next ∷ words) all.1))

-- bytes that end no line are a line
pub IsLine-plain : (line : List ℕ) → All IsPlain line → IsLine line
IsLine-plain [] plain = record { whole = λ k d inside. absurd (omega arith); kept = refl }
IsLine-plain (byte ∷ line) plain =
    let last : length (byte ∷ line) - 1 ≡ length line = omega arith in
    let test = ap (λ i. eqb (get_or (byte ∷ line) i 0) 13) last ∙ (plain (length line) 0 (omega arith)).1 in
    record {
      whole = λ k d inside. (plain k d inside).0;
      kept = ap (λ returns. cond returns (take (length (byte ∷ line) - 1) (byte ∷ line)) (byte ∷ line)) test;
    }

-- words with a blank between any two are a line
pub IsLine-line_of : (words : List (List ℕ)) → AllByRecursion IsWord words → IsLine (line_of words)
IsLine-line_of words all = IsLine-plain (line_of words) (plain_line words all)

plain_digit : (byte : ℕ) → is_ascii_digit byte ≡ true → is_separator byte ≡ false
plain_digit byte digit = let is = digit_is byte digit in grind (arith, nat_tests)

plain_digits : (digits : List ℕ) → all_ascii_digits digits ≡ true → All (λ byte. is_separator byte ≡ false) digits
plain_digits digits all =
    let tells = Decides-by_and is_ascii_digit (λ b. is_ascii_digit b ≡ true) all_ascii_digits (λ b. (λ e. e, λ e. e)) refl (λ _ _. refl) digits in
    λ k d inside. plain_digit (get_or digits k d) (tells.0 all k d inside)

-- the text of a number is a word
pub IsWord-decimal : (z : ℤ) → IsWord (decimal z)
unfolding decimal
IsWord-decimal (pos n) = record { some = length-natural_text n; plain = plain_digits (natural_text n) (all_ascii_digits-natural_text n) }
IsWord-decimal (negsuc n) = record {
  some = omega arith;
  plain = All-cons (λ byte. is_separator byte ≡ false) 45 (natural_text (suc n)) refl
      (plain_digits (natural_text (suc n)) (all_ascii_digits-natural_text (suc n)));
}

-- a word that is written out passes the test by `refl`
pub IsWord-test : (word : List ℕ) → (not (eqb (length word) 0) && list_all (λ byte. not (is_separator byte)) word) ≡ true → IsWord word
IsWord-test word passes =
    let parts = and_parts (not (eqb (length word) 0)) (list_all (λ byte. not (is_separator byte)) word) passes in
    let tells = Decides-by_and (λ b. not (is_separator b)) (λ b. is_separator b ≡ false) (list_all (λ byte. not (is_separator byte)))
    (λ b. (λ e. not-true (is_separator b) e, λ e. ap not e)) refl (λ _ _. refl) word in
    record { some = grind (arith, nat_tests, parts.0); plain = tells.0 parts.1 }

-- the words of two lists, one behind the other
pub blanks-append : (xs ys : List (List ℕ)) → behind_blanks (xs ++ ys) ≡ behind_blanks xs ++ behind_blanks ys
blanks-append [] ys = refl
blanks-append (x ∷ xs) ys = ap (λ (rest : List ℕ). (32 ∷ x) ++ rest) (blanks-append xs ys) ∙ sym (append_assoc (32 ∷ x) (behind_blanks xs) (behind_blanks ys))

-- a line is its first word and the others behind blanks
pub line-words : (word : List ℕ) (words : List (List ℕ)) → line_of (word ∷ words) ≡ word ++ behind_blanks words
line-words word [] = sym (append-nil word)
line-words word (next ∷ words) = ap (λ (rest : List ℕ). word ++ 32 ∷ rest) (line-words next words)

-- numbers are words
pub words-decimals : (numbers : List ℤ) → AllByRecursion IsWord (map decimal numbers)
words-decimals [] = tt
words-decimals (z ∷ numbers) = (IsWord-decimal z, words-decimals numbers)

-- lines that are written behind lines
pub lines_behind : (first second : List (List ℕ)) (old now new : List ℕ) → now ≡ old ++ text_of first → new ≡ now ++ text_of second
    → new ≡ old ++ text_of (first ++ second)
lines_behind first second old now new one two =
    two ∙ ap (λ (text : List ℕ). text ++ text_of second) one ∙ append_assoc old (text_of first) (text_of second)
    ∙ ap (λ (text : List ℕ). old ++ text) (sym (text_of-append first second))
