-- The words of a command, word by word.
use Rattle.cif_forms.proofs.Common.{◌≡◌, ℕ, suc, ◌+◌, ◌<◌, ◌≤◌, ◌&&◌, ◌||◌, true, false, not, cond, Some, None, List, [], ◌∷◌, length, take, drop}
use Rattle.cif_forms.proofs.Common.{map, refl, sym, ap, ◌∙◌, arith, inl, inr, is_ascii_uppercase, onto_first, position, position_or_len, cases_Bool}
use Rattle.cif_forms.proofs.Common.{cases_lt, lt-ltb, is_numeral, is_mark, is_blank, begins_with_numeral, from_first_word}
use Rattle.std.proofs.Common.{max}
use Rattle.std.proofs.lemmas.List.{nil_from_length}
use Rattle.std.proofs.lemmas.List.Sums.{prefix_len-le-length}
use Rattle.cif_forms.specs.Words.{words_in, is_no_numeral, word_of, words_of}

-- one more word
pub words_of-more : (bytes rest word : List ℕ) → words_in bytes ≡ word ∷ words_in rest → words_of bytes ≡ word_of word ∷ words_of rest
unfolding words_of
words_of-more bytes rest word e = ap (map word_of) e

pub words_of-none : (bytes : List ℕ) → words_in bytes ≡ [] → words_of bytes ≡ []
unfolding words_of
words_of-none bytes e = ap (map word_of) e

-- ---- the first word

pub words_in-from_first_word : (bytes : List ℕ) → words_in (from_first_word bytes) ≡ words_in bytes
words_in-from_first_word [] = refl
words_in-from_first_word (byte ∷ bytes) =
    elim (cases_Bool (is_blank byte)) [
      | inl blank ↦
          let rest = words_in bytes in
          let first = cond (is_numeral byte && begins_with_numeral bytes) (onto_first byte rest) ((byte ∷ []) ∷ rest) in
          ap (λ test. words_in (cond test (from_first_word bytes) (byte ∷ bytes))) blank
          ∙ (words_in-from_first_word bytes ∙ sym (ap (λ test. cond test rest first) blank))
      | inr other ↦ ap (λ test. words_in (cond test (from_first_word bytes) (byte ∷ bytes))) other
    ]

pub from_first_word-first : (bytes : List ℕ) (byte : ℕ) (rest : List ℕ) → from_first_word bytes ≡ byte ∷ rest → is_blank byte ≡ false
from_first_word-first [] byte rest e = absurd (cc)
from_first_word-first (first ∷ bytes) byte rest e =
    elim (cases_Bool (is_blank first)) [
      | inl blank ↦ from_first_word-first bytes byte rest (sym (ap (λ test. cond test (from_first_word bytes) (first ∷ bytes)) blank) ∙ e)
      | inr other ↦
          let same : first ∷ bytes ≡ byte ∷ rest = sym (ap (λ test. cond test (from_first_word bytes) (first ∷ bytes)) other) ∙ e in
          let is : first ≡ byte = cc in
          ap is_blank (sym is) ∙ other
    ]

pub length-from_first_word : (bytes : List ℕ) → length (from_first_word bytes) ≤ length bytes
length-from_first_word [] = omega arith
length-from_first_word (byte ∷ bytes) =
    elim (cases_Bool (is_blank byte)) [
      | inl blank ↦ omega (arith, length-from_first_word bytes, ap (λ test. length (cond test (from_first_word bytes) (byte ∷ bytes))) blank)
      | inr other ↦ omega (arith, ap (λ test. length (cond test (from_first_word bytes) (byte ∷ bytes))) other)
    ]

-- a byte of a number is no blank
pub numeral-is_shown : (byte : ℕ) → is_numeral byte ≡ true → is_blank byte ≡ false
numeral-is_shown byte numeral = ap (λ is. not (is || is_ascii_uppercase byte || is_mark byte)) numeral

-- a byte that is no blank is of the first word
pub shown : (byte : ℕ) (bytes : List ℕ) → is_blank byte ≡ false
    → words_in (byte ∷ bytes) ≡ cond (is_numeral byte && begins_with_numeral bytes) (onto_first byte (words_in bytes)) ((byte ∷ []) ∷ words_in bytes)
shown byte bytes is =
    let rest = words_in bytes in
    ap (λ blank. cond blank rest (cond (is_numeral byte && begins_with_numeral bytes) (onto_first byte rest) ((byte ∷ []) ∷ rest))) is

take_suc : (j k x : ℕ) (xs : List ℕ) → j ≡ suc k → take j (x ∷ xs) ≡ x ∷ take k xs
take_suc j k x xs e = ap (λ i. take i (x ∷ xs)) e

drop_suc : (j k x : ℕ) (xs : List ℕ) → j ≡ suc k → drop j (x ∷ xs) ≡ drop k xs
drop_suc j k x xs e = ap (λ i. drop i (x ∷ xs)) e

end-numeral : (byte : ℕ) (bytes : List ℕ) → is_numeral byte ≡ true
    → position_or_len is_no_numeral (byte ∷ bytes) ≡ suc (position_or_len is_no_numeral bytes)
end-numeral byte bytes numeral =
    let k = position_or_len is_no_numeral bytes in
    let more : 1 + k ≡ suc k = omega arith in
    ap (λ is. cond (not (not is)) (1 + k) 0) numeral ∙ more

end-other : (byte : ℕ) (bytes : List ℕ) → is_numeral byte ≡ false → position_or_len is_no_numeral (byte ∷ bytes) ≡ 0
end-other byte bytes other = ap (λ is. cond (not (not is)) (1 + position_or_len is_no_numeral bytes) 0) other

-- a number stands first
pub words_in-numeral : (byte : ℕ) (bytes : List ℕ) → is_numeral byte ≡ true
    → words_in (byte ∷ bytes) ≡ (byte ∷ take (position_or_len is_no_numeral bytes) bytes) ∷ words_in (drop (position_or_len is_no_numeral bytes) bytes)
words_in-numeral byte [] numeral =
    shown byte [] (numeral-is_shown byte numeral) ∙ ap (λ is. cond (is && false) (onto_first byte []) ((byte ∷ []) ∷ [])) numeral
words_in-numeral byte (next ∷ bytes) numeral =
    let whole = onto_first byte (words_in (next ∷ bytes)) in
    let alone = (byte ∷ []) ∷ words_in (next ∷ bytes) in
    let k = position_or_len is_no_numeral bytes in
    shown byte (next ∷ bytes) (numeral-is_shown byte numeral)
    ∙ (ap (λ is. cond (is && is_numeral next) whole alone) numeral
    ∙ elim (cases_Bool (is_numeral next)) [
      | inl more ↦
          let j = position_or_len is_no_numeral (next ∷ bytes) in
          let end = end-numeral next bytes more in
          ap (λ is. cond is whole alone) more
          ∙ (ap (onto_first byte) (words_in-numeral next bytes more)
          ∙ (ap (λ word. (byte ∷ word) ∷ words_in (drop k bytes)) (sym (take_suc j k next bytes end))
          ∙ ap (λ rest. (byte ∷ take j (next ∷ bytes)) ∷ words_in rest) (sym (drop_suc j k next bytes end))))
      | inr other ↦
          ap (λ is. cond is whole alone) other
          ∙ ap (λ j. (byte ∷ take j (next ∷ bytes)) ∷ words_in (drop j (next ∷ bytes))) (sym (end-other next bytes other))
    ])

split-numeral : (byte : ℕ) (bytes : List ℕ) → is_numeral byte ≡ true
    → words_in (byte ∷ bytes) ≡ take (max (position_or_len is_no_numeral (byte ∷ bytes)) 1) (byte ∷ bytes)
    ∷ words_in (drop (max (position_or_len is_no_numeral (byte ∷ bytes)) 1) (byte ∷ bytes))
split-numeral byte bytes numeral =
    let k = position_or_len is_no_numeral bytes in
    let j = max (position_or_len is_no_numeral (byte ∷ bytes)) 1 in
    let end : j ≡ suc k = omega (arith, end-numeral byte bytes numeral) in
    words_in-numeral byte bytes numeral
    ∙ (ap (λ word. word ∷ words_in (drop k bytes)) (sym (take_suc j k byte bytes end))
    ∙ ap (λ rest. take j (byte ∷ bytes) ∷ words_in rest) (sym (drop_suc j k byte bytes end)))

split-other : (byte : ℕ) (bytes : List ℕ) → is_blank byte ≡ false → is_numeral byte ≡ false
    → words_in (byte ∷ bytes) ≡ take (max (position_or_len is_no_numeral (byte ∷ bytes)) 1) (byte ∷ bytes)
    ∷ words_in (drop (max (position_or_len is_no_numeral (byte ∷ bytes)) 1) (byte ∷ bytes))
split-other byte bytes is other =
    let j = max (position_or_len is_no_numeral (byte ∷ bytes)) 1 in
    let end : j ≡ suc 0 = omega (arith, end-other byte bytes other) in
    shown byte bytes is
    ∙ (ap (λ n. cond (n && begins_with_numeral bytes) (onto_first byte (words_in bytes)) ((byte ∷ []) ∷ words_in bytes)) other
    ∙ ap (λ i. take i (byte ∷ bytes) ∷ words_in (drop i (byte ∷ bytes))) (sym end))

split_shown : (bytes : List ℕ) → 0 < length bytes → ((byte : ℕ) (rest : List ℕ) → bytes ≡ byte ∷ rest → is_blank byte ≡ false)
    → words_in bytes ≡ take (max (position_or_len is_no_numeral bytes) 1) bytes ∷ words_in (drop (max (position_or_len is_no_numeral bytes) 1) bytes)
split_shown [] some first = absurd (omega arith)
split_shown (byte ∷ bytes) some first =
    elim (cases_Bool (is_numeral byte)) [
      | inl numeral ↦ split-numeral byte bytes numeral
      | inr other ↦ split-other byte bytes (first byte bytes refl) other
    ]

-- the first word of a command, and what follows it
pub words_in-split : (bytes : List ℕ) → 0 < length (from_first_word bytes)
    → words_in bytes ≡ take (max (position_or_len is_no_numeral (from_first_word bytes)) 1) (from_first_word bytes)
    ∷ words_in (drop (max (position_or_len is_no_numeral (from_first_word bytes)) 1) (from_first_word bytes))
words_in-split bytes some =
    sym (words_in-from_first_word bytes) ∙ split_shown (from_first_word bytes) some (λ byte rest e. from_first_word-first bytes byte rest e)

-- a command without a word
pub words_in-none : (bytes : List ℕ) → length (from_first_word bytes) ≡ 0 → words_in bytes ≡ []
words_in-none bytes none = sym (words_in-from_first_word bytes) ∙ ap words_in (nil_from_length (from_first_word bytes) none)

-- no byte passes, so the first that does stands at the end
pub end-none : (bytes : List ℕ) → position is_no_numeral bytes ≡ None → length bytes ≡ position_or_len is_no_numeral bytes
end-none bytes e =
    let end = position_or_len is_no_numeral bytes in
    elim (cases_lt end (length bytes)) [
      | inl inside ↦ absurd (let bad : Some end ≡ None = sym (ap (λ test. cond test (Some end) None) (lt-ltb end (length bytes) inside)) ∙ e in cc)
      | inr past ↦ omega (arith, prefix_len-le-length (λ byte. not (is_no_numeral byte)) bytes, past)
    ]
