-- What is written is cut into the commands that it was made of.
use Rattle.cif_forms.proofs.Common.{◌≡◌, ℕ, ◌<◌, ◌==◌, ◌&&◌, true, false, cond, List, [], ◌∷◌, ◌++◌, length, refl, sym, ap, ◌∙◌, arith, inl, inr}
use Rattle.cif_forms.proofs.Common.{onto_first, and_parts, cases_Bool, is_semicolon, is_numeral, is_blank, Scan, shown_from, begins_with_numeral}
use Rattle.cif_forms.specs.declared.comments.Place.{Place}
use Rattle.cif_forms.specs.declared.comments.Place.TheVariants.{Before, ReadOver, Within}
use Rattle.cif_forms.proofs.WordLaws.{words_in-numeral}
use Rattle.cif_forms.specs.Comments.{depth_behind, opens_comment, place_behind, without_comments}
use Rattle.cif_forms.specs.Words.{words_in}

-- a byte that opens no comment
abbrev pub IsNoParenthesis : ℕ → Type 0
IsNoParenthesis byte = (byte == 40) ≡ false

-- a list of such bytes
abbrev pub HasNoComment : List ℕ → Type 0
HasNoComment [] = Unit {0}
HasNoComment (byte ∷ text) = IsNoParenthesis byte × HasNoComment text

opens-none : (place : Place) (byte : ℕ) → IsNoParenthesis byte → opens_comment place byte ≡ false
opens-none Before byte none = none
opens-none ReadOver byte none = refl
opens-none Within byte none = none

-- outside of comments a text without parentheses is read as it is
pub shown_from-plain : (place : Place) (text : List ℕ) → HasNoComment text → shown_from (record { place = place; depth = 0 }) text ≡ text
shown_from-plain place [] none = refl
shown_from-plain place (byte ∷ text) none =
    let scan : Scan = record { place = place; depth = 0 } in
    let of_comment : Scan = record { place = place; depth = depth_behind 0 byte } in
    let ended : Scan = record { place = Before; depth = 0 } in
    let next : Scan = record { place = place_behind place byte; depth = 0 } in
    ap (λ is. cond is (cond (byte == 10) 10 32) byte ∷ shown_from (cond is of_comment (cond (is_semicolon byte) ended next)) text)
    (opens-none place byte none.0)
    ∙ elim (cases_Bool (is_semicolon byte)) [
      | inl ends ↦
          ap (λ is. byte ∷ shown_from (cond is ended next) text) ends ∙ ap (λ rest. byte ∷ rest) (shown_from-plain Before text none.1)
      | inr goes_on ↦
          ap (λ is. byte ∷ shown_from (cond is ended next) text) goes_on
          ∙ ap (λ rest. byte ∷ rest) (shown_from-plain (place_behind place byte) text none.1)
    ]

pub without_comments-plain : (text : List ℕ) → HasNoComment text → without_comments text ≡ text
unfolding without_comments
without_comments-plain text none = shown_from-plain Before text none

-- commands with their semicolons, and what stands behind the last
abbrev pub joined : List (List ℕ) → List ℕ → List ℕ
joined [] tail = tail
joined (command ∷ commands) tail = command ++ 59 ∷ joined commands tail

-- ---- words

numerals-some : (bytes : List ℕ) → begins_with_numeral bytes ≡ true → 0 < length (words_in bytes)
numerals-some [] begins = absurd (cc)
numerals-some (byte ∷ bytes) begins = omega (arith, ap length (words_in-numeral byte bytes begins))

onto-append : (byte : ℕ) (words more : List (List ℕ)) → 0 < length words → onto_first byte (words ++ more) ≡ onto_first byte words ++ more
onto-append byte [] more some = absurd (omega arith)
onto-append byte (word ∷ words) more some = refl

begins-join : (bytes rest : List ℕ) → begins_with_numeral (bytes ++ 32 ∷ rest) ≡ begins_with_numeral bytes
begins-join [] rest = refl
begins-join (byte ∷ bytes) rest = refl

-- the words of two texts with a blank between
pub words_in-join : (bytes rest : List ℕ) → words_in (bytes ++ 32 ∷ rest) ≡ words_in bytes ++ words_in rest
words_in-join [] rest = refl
words_in-join (byte ∷ bytes) rest =
    let long = words_in (bytes ++ 32 ∷ rest) in
    let short = words_in bytes in
    let more = words_in rest in
    let again = words_in-join bytes rest in
    let begins = begins_with_numeral bytes in
    ap (λ is. cond (is_blank byte) long (cond (is_numeral byte && is) (onto_first byte long) ((byte ∷ []) ∷ long))) (begins-join bytes rest)
    ∙ (ap (λ words. cond (is_blank byte) words (cond (is_numeral byte && begins) (onto_first byte words) ((byte ∷ []) ∷ words))) again
    ∙ elim (cases_Bool (is_blank byte)) [
      | inl blank ↦
          ap (λ is. cond is (short ++ more) (cond (is_numeral byte && begins) (onto_first byte (short ++ more)) ((byte ∷ []) ∷ short ++ more))) blank
          ∙ ap (λ is. cond is short (cond (is_numeral byte && begins) (onto_first byte short) ((byte ∷ []) ∷ short)) ++ more) (sym blank)
      | inr shown ↦
          ap (λ is. cond is (short ++ more) (cond (is_numeral byte && begins) (onto_first byte (short ++ more)) ((byte ∷ []) ∷ short ++ more))) shown
          ∙ (elim (cases_Bool (is_numeral byte && begins)) [
            | inl goes_on ↦
                ap (λ is. cond is (onto_first byte (short ++ more)) ((byte ∷ []) ∷ short ++ more)) goes_on
                ∙ (onto-append byte short more (numerals-some bytes (and_parts (is_numeral byte) begins goes_on).1)
                ∙ ap (λ is. cond is (onto_first byte short) ((byte ∷ []) ∷ short) ++ more) (sym goes_on))
            | inr alone ↦
                ap (λ is. cond is (onto_first byte (short ++ more)) ((byte ∷ []) ∷ short ++ more)) alone
                ∙ ap (λ is. cond is (onto_first byte short) ((byte ∷ []) ∷ short) ++ more) (sym alone)
          ]
          ∙ ap (λ is. cond is short (cond (is_numeral byte && begins) (onto_first byte short) ((byte ∷ []) ∷ short)) ++ more) (sym shown))
    ])
