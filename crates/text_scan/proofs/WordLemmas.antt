-- The words of a line, word by word.
use Rattle.std.proofs.Common.{◌≡◌, ℕ, ◌+◌, ◌<◌, ◌≤◌, true, false, not, cond, List, [], ◌∷◌, ◌++◌, length, get_or, drop, filter, refl, sym, ap, ◌∙◌, subst}
use Rattle.std.proofs.Common.{arith, inl, inr}
use Rattle.std.specs.List.{slice_split, onto_first, before_first, after_first, position_or_len, All}
use Rattle.std.proofs.Math.ListN.{drop_of_length-le}
use Rattle.std.proofs.lemmas.Bool.{cases_lt, cases_Bool, ne_eqb, not-true}
use Rattle.std.proofs.lemmas.List.{take_all, drop_more, length-take-le, length-drop, nil_from_length}
use Rattle.std.proofs.lemmas.List.Splits.{slice_split_none, slice_split_at, slice_split-cons_yes, slice_split-cons_no}
use Rattle.std.proofs.lemmas.List.Sums.{fails_before_first, passes_at_first, split_at_first, prefix_len-le-length}
use Rattle.std.proofs.lemmas.Grind.{common_steps}
use Rattle.std.proofs.Math.Numerals.{one-add}
use Rattle.text_scan.specs.Words.{words_of, is_blank, is_in_word, is_word, from_first_word}

filter-word : (word : List ℕ) (pieces : List (List ℕ)) → 0 < length word → filter is_word (word ∷ pieces) ≡ word ∷ filter is_word pieces
filter-word word pieces some =
    ap (λ test. cond (not test) (word ∷ filter is_word pieces) (filter is_word pieces)) (ne_eqb (length word) 0 (λ e. omega arith))

pub words_of-nil : words_of [] ≡ []
unfolding words_of
words_of-nil = refl

-- a blank before the words changes none
pub words_of-blank : (byte : ℕ) (line : List ℕ) → is_blank byte ≡ true → words_of (byte ∷ line) ≡ words_of line
unfolding words_of
words_of-blank byte line blank = ap (filter is_word) (slice_split-cons_yes is_blank byte line blank)

-- a word at the start of a line, and a blank behind it
pub words_of-at : (word : List ℕ) (byte : ℕ) (rest : List ℕ) → 0 < length word → All (λ b. is_blank b ≡ false) word → is_blank byte ≡ true
    → words_of (word ++ byte ∷ rest) ≡ word ∷ words_of rest
unfolding words_of
words_of-at word byte rest some none blank =
    ap (filter is_word) (slice_split_at is_blank word byte rest none blank) ∙ filter-word word (slice_split is_blank rest) some

-- a word alone
pub words_of-one : (word : List ℕ) → 0 < length word → All (λ b. is_blank b ≡ false) word → words_of word ≡ word ∷ []
unfolding words_of
words_of-one word some none = ap (filter is_word) (slice_split_none is_blank word none) ∙ filter-word word [] some

-- the bytes before the first blank are none
none_before_first : (line : List ℕ) → All (λ b. is_blank b ≡ false) (before_first is_blank line)
none_before_first line = λ k d inside.
    let fails = fails_before_first is_blank line k d (grind (arith, common_steps)) in
    grind (arith, common_steps)

-- a line that starts with a word
pub words_of-first : (line : List ℕ) → 0 < position_or_len is_blank line
    → words_of line ≡ before_first is_blank line ∷ words_of (drop (position_or_len is_blank line) line)
words_of-first line some =
    let end = position_or_len is_blank line in
    let word = before_first is_blank line in
    elim (cases_lt end (length line)) [
      | inl inside ↦
          let blank = get_or line end 0 in
          let rest = after_first is_blank line in
          let size = length-take-le end line (omega arith) in
          let stops = passes_at_first is_blank line 0 inside in
          ap words_of (split_at_first is_blank line 0 inside)
          ∙ (words_of-at word blank rest (omega arith) (none_before_first line) stops
          ∙ ap (λ more. word ∷ more) (sym (words_of-blank blank rest stops) ∙ ap words_of (sym (drop_more line end 0 inside))))
      | inr past ↦
          let whole = take_all end line past in
          let none = drop_of_length-le line {i = end} past in
          (words_of-one line (grind (arith, common_steps, prefix_len-le-length {X = ℕ}))
          (subst (All (λ b. is_blank b ≡ false)) whole (none_before_first line)) ∙ ap (λ more. line ∷ more) (sym words_of-nil))
          ∙ (ap (λ w. w ∷ words_of []) (sym whole) ∙ ap (λ more. word ∷ words_of more) (sym none))
    ]

from_first_word-blank : (byte : ℕ) (line : List ℕ) → is_blank byte ≡ true → from_first_word (byte ∷ line) ≡ from_first_word line
from_first_word-blank byte line blank =
    ap (λ test. drop (cond (not (not test)) (1 + position_or_len is_in_word line) 0) (byte ∷ line)) blank ∙ rw one-add refl

-- a line that begins in a word begins its first word
pub from_first_word-in_word : (byte : ℕ) (line : List ℕ) → is_blank byte ≡ false → from_first_word (byte ∷ line) ≡ byte ∷ line
from_first_word-in_word byte line stands =
    ap (λ test. drop (cond (not (not test)) (1 + position_or_len is_in_word line) 0) (byte ∷ line)) stands

-- the blanks before the first word change nothing
pub words_of-from_first_word : (line : List ℕ) → words_of line ≡ words_of (from_first_word line)
words_of-from_first_word [] = refl
words_of-from_first_word (byte ∷ line) =
    elim (cases_Bool (is_blank byte)) [
      | inl blank ↦ words_of-blank byte line blank ∙ (words_of-from_first_word line ∙ ap words_of (sym (from_first_word-blank byte line blank)))
      | inr stands ↦ ap words_of (sym (from_first_word-in_word byte line stands))
    ]

-- a line of blanks alone has no word
pub words_of-none : (line : List ℕ) → length (from_first_word line) ≡ 0 → words_of line ≡ []
words_of-none line none = words_of-from_first_word line ∙ (ap words_of (nil_from_length (from_first_word line) none) ∙ words_of-nil)

-- a line starts with a byte of a word, once the blanks before it are gone
first_in_word : (line : List ℕ) → 0 < length (from_first_word line) → 0 < position_or_len is_blank (from_first_word line)
first_in_word line some =
    let start = position_or_len is_in_word line in
    let inside : start < length line = omega (arith, length-drop start line) in
    let begins = not-true (is_blank (get_or line start 0)) (passes_at_first is_in_word line 0 inside) in
    let starts = ap (position_or_len is_blank) (drop_more line start 0 inside)
    ∙ ap (λ test. cond (not test) (1 + position_or_len is_blank (drop (start + 1) line)) 0) begins in
    omega arith

-- the first word of a line, and the words behind it
pub words_of-split : (line : List ℕ) → 0 < length (from_first_word line)
    → let from = from_first_word line in words_of line ≡ before_first is_blank from ∷ words_of (drop (position_or_len is_blank from) from)
words_of-split line some =
    words_of-from_first_word line ∙ words_of-first (from_first_word line) (first_in_word line some)

length-filter-onto_first : (byte : ℕ) (pieces : List (List ℕ)) → length (filter is_word (onto_first byte pieces)) ≤ length (filter is_word pieces) + 1
length-filter-onto_first byte [] = omega arith
length-filter-onto_first byte (piece ∷ pieces) =
    let longer = ap length (filter-word (byte ∷ piece) pieces (omega arith)) in
    elim (cases_Bool (is_word piece)) [
      | inl kept ↦ omega (arith, ap (λ test. length (cond test (piece ∷ filter is_word pieces) (filter is_word pieces))) kept)
      | inr left_out ↦ omega (arith, ap (λ test. length (cond test (piece ∷ filter is_word pieces) (filter is_word pieces))) left_out)
    ]

-- a line has no more words than bytes
pub length-words_of : (line : List ℕ) → length (words_of line) ≤ length line
unfolding words_of
length-words_of [] = omega arith
length-words_of (byte ∷ line) =
    elim (cases_Bool (is_blank byte)) [
      | inl blank ↦ omega (arith, length-words_of line, ap (λ pieces. length (filter is_word pieces)) (slice_split-cons_yes is_blank byte line blank))
      | inr stands ↦ omega (
        arith,
        length-words_of line,
        ap (λ pieces. length (filter is_word pieces)) (slice_split-cons_no is_blank byte line stands),
        length-filter-onto_first byte (slice_split is_blank line),
      )
    ]
