-- The line of a label says the label.
use Rattle.mag_text.proofs.Common.{◌≡◌, ◌<◌, ◌+◌, ◌==◌, ℕ, suc, pos, Bool, true, false, cond, List, [], ◌∷◌, ◌++◌, length, get_or, drop, map, Option}
use Rattle.mag_text.proofs.Common.{Some, None, Ok, Err, refl, sym, ap, ◌∙◌, arith, ◌&&◌, ◌||◌, not, codes, nat_le, All, IfSome, w64, AllByRecursion}
use Rattle.mag_text.proofs.Common.{list_all, and_parts, or_parts, nat_tests, ints, length-prefix_len, is_line_feed, number_of, words_of, is_blank}
use Rattle.mag_text.proofs.Common.{from_first_word, IsWord, line_of, number_of-decimal, IsWord-test, words-decimals, and_then, LONGEST_LABEL}
use Rattle.mag_text.proofs.Common.{OneLabel, LayerId, RawTech, is_in_range, IsLabel, is_text_byte, begins_with_blank, ends_with_blank, is_label_text}
use Rattle.mag_text.proofs.Common.{is_position, has_sides, is_label_area, EmptyRect, Label, Four, if_touched, if_form, words_say, says}
use Rattle.mag_text.proofs.Common.{label_numbers, layer_word, layer_at, first_name, IsWellFormed}
use Rattle.std.specs.Prelude.{reverse, FitsSigned}
use Rattle.std.specs.List.{before_first, prefix_len}
use Rattle.std.proofs.Math.Numerals.{one-add}
use Rattle.std.proofs.Math.Seq.{drop-append_seam}
use Rattle.std.proofs.lemmas.List.{reverse-reverse}
use Rattle.text_scan.specs.Decimal.{decimal}
use Rattle.text_scan.proofs.WordLemmas.{words_of-blank, words_of-at, from_first_word-in_word}
use Rattle.cell_library.specs.CellBodies.Words.{without_last_blanks, without_outer_blanks}
use Rattle.cell_library.proofs.CellBodies.BlankLaws.{without_first_blanks-none}
use Rattle.mag_text.specs.NumberForms.{rect_in, position_in}
use Rattle.mag_text.specs.WordForms.{after_word, after_words}
use Rattle.mag_text.specs.LineForms.{label_layer_in, label_place, label_at, label_line_of, label_behind, label_line, label_text, line_by_key}
use Rattle.mag_text.specs.WrittenTexts.{label_line as written_label}
use Rattle.mag_text.proofs.LayerNames.{first_name-plain, label_layer-word}
use Rattle.mag_text.proofs.ReadLines.{IsWord-plain_name, has_coordinates, coordinate_fits, rect-read}

first_word-blank : (line : List ℕ) → from_first_word (32 ∷ line) ≡ from_first_word line
first_word-blank line = rw one-add refl

-- a blank in front changes nothing of what follows the first word
after_word-blank : (line : List ℕ) → after_word (32 ∷ line) ≡ after_word line
unfolding after_word
after_word-blank line = ap (λ (from : List ℕ). drop (length (before_first is_blank from)) from) (first_word-blank line)

-- no byte of a word is a blank
no_blanks : (word : List ℕ) → IsWord word → All (λ b. is_blank b ≡ false) word
no_blanks word is = λ k d inside.
    let b = get_or word k d in
    let two = or_parts (is_blank b || is_line_feed b) (b == 13) (is.plain k d inside) in
    (or_parts (is_blank b) (is_line_feed b) two.0).0

prefix-word : (word rest : List ℕ) → All (λ b. is_blank b ≡ false) word → prefix_len (λ b. not (is_blank b)) (word ++ 32 ∷ rest) ≡ length word
prefix-word [] rest plain = refl
prefix-word (byte ∷ word) rest plain =
    let first : is_blank byte ≡ false = plain 0 0 (omega arith) in
    let more = prefix-word word rest (λ k d inside. plain (suc k) d (omega arith)) in
    ap (λ (b : Bool). cond (not b) (1 + prefix_len (λ b. not (is_blank b)) (word ++ 32 ∷ rest)) 0) first ∙ omega (arith, more)

from_word : (word rest : List ℕ) → 0 < length word → All (λ b. is_blank b ≡ false) word → from_first_word (word ++ 32 ∷ rest) ≡ word ++ 32 ∷ rest
from_word [] rest some plain = absurd (omega arith)
from_word (byte ∷ word) rest some plain = from_first_word-in_word byte (word ++ 32 ∷ rest) (plain 0 0 (omega arith))

-- what follows a word is the blank behind it and the rest
after_word-at : (word rest : List ℕ) → IsWord word → after_word (word ++ 32 ∷ rest) ≡ 32 ∷ rest
unfolding after_word
after_word-at word rest is =
    let line = word ++ 32 ∷ rest in
    let plain = no_blanks word is in
    let long : length (before_first is_blank line) ≡ length word = length-prefix_len (λ b. not (is_blank b)) line ∙ prefix-word word rest plain in
    ap (λ (from : List ℕ). drop (length (before_first is_blank from)) from) (from_word word rest is.some plain)
    ∙ ap (λ (k : ℕ). drop k line) long ∙ drop-append_seam word (32 ∷ rest)

-- words, each behind a blank, and then a text behind one
abbrev tail_of : List (List ℕ) → List ℕ → List ℕ
tail_of [] text = 32 ∷ text
tail_of (word ∷ words) text = 32 ∷ (word ++ tail_of words text)

tail_rest : (words : List (List ℕ)) (text : List ℕ) → (rest : List ℕ) × (tail_of words text ≡ 32 ∷ rest)
tail_rest [] text = (text, refl)
tail_rest (word ∷ words) text = (word ++ tail_of words text, refl)

line-tail : (key : List ℕ) (words : List (List ℕ)) (text : List ℕ) → line_of (key ∷ (words ++ text ∷ [])) ≡ key ++ tail_of words text
line-tail key [] text = refl
line-tail key (word ∷ words) text = ap (λ (rest : List ℕ). key ++ 32 ∷ rest) (line-tail word words text)

after_word-tail : (word : List ℕ) (words : List (List ℕ)) (text : List ℕ) → IsWord word → after_word (word ++ tail_of words text) ≡ tail_of words text
after_word-tail word words text is =
    let rest = tail_rest words text in
    ap (λ (t : List ℕ). after_word (word ++ t)) rest.1 ∙ after_word-at word rest.0 is ∙ sym rest.1

words_of-tail : (word : List ℕ) (words : List (List ℕ)) (text : List ℕ) → IsWord word
    → words_of (word ++ tail_of words text) ≡ word ∷ words_of (tail_of words text)
words_of-tail word words text is =
    let rest = tail_rest words text in
    ap (λ (t : List ℕ). words_of (word ++ t)) rest.1 ∙ words_of-at word 32 rest.0 is.some (no_blanks word is) refl
    ∙ ap (λ (ws : List (List ℕ)). word ∷ ws) (sym (words_of-blank 32 rest.0 refl) ∙ ap words_of (sym rest.1))

after_words-tail : (words : List (List ℕ)) (text : List ℕ) → AllByRecursion IsWord words → after_words (length words) (tail_of words text) ≡ 32 ∷ text
after_words-tail [] text all = refl
after_words-tail (word ∷ words) text all =
    ap (after_words (length words)) (after_word-blank (word ++ tail_of words text) ∙ after_word-tail word words text all.0) ∙ after_words-tail words text all.1

words-tail : (words : List (List ℕ)) (text : List ℕ) → AllByRecursion IsWord words → words_of (tail_of words text) ≡ words ++ words_of (32 ∷ text)
words-tail [] text all = refl
words-tail (word ∷ words) text all =
    words_of-blank 32 (word ++ tail_of words text) refl ∙ words_of-tail word words text all.0
    ∙ ap (λ (ws : List (List ℕ)). word ∷ ws) (words-tail words text all.1)

untrue : (b : Bool) → not b ≡ true → b ≡ false
untrue true is = absurd (let no : ⊥ = cc in no)
untrue false is = refl

position_fits : (position : ℕ) → is_position position ≡ true → FitsSigned w64 (pos position)
position_fits position is = record { sfits = grind (arith, nat_tests, ints) }

-- the text of a label has no blank at its ends
text-kept : (text : List ℕ) → is_label_text text ≡ true → without_outer_blanks (32 ∷ text) ≡ text
unfolding without_outer_blanks
text-kept text is =
    let a = and_parts (nat_le 1 (length text) && nat_le (length text) LONGEST_LABEL && list_all is_text_byte text && not (begins_with_blank text))
    (not (ends_with_blank text)) is in
    let b = and_parts (nat_le 1 (length text) && nat_le (length text) LONGEST_LABEL && list_all is_text_byte text) (not (begins_with_blank text)) a.0 in
    ap without_last_blanks (without_first_blanks-none text (untrue (begins_with_blank text) b.1))
    ∙ ap reverse (without_first_blanks-none (reverse text) (untrue (ends_with_blank text) a.1)) ∙ reverse-reverse text

position-read : (position : ℕ) → is_position position ≡ true → position_in (number_of (decimal (pos position))) ≡ Some position
position-read position is =
    ap position_in (number_of-decimal (pos position) (position_fits position is)) ∙ ap (λ (b : Bool). cond b (Some position) None) is

label_of-read : (raw : RawTech) (label : OneLabel) (word : List ℕ) → label_layer_in raw word ≡ Ok label.layer → is_label_area label.area ≡ true
    → is_label_text label.text ≡ true
    → label_line_of raw word (Ok label.area.xlo, Ok label.area.ylo, Ok label.area.xhi, Ok label.area.yhi) (Some label.position) label.text
    ≡ Ok (Label (Ok label))
unfolding label_line_of
label_of-read raw label word layer_is area_is text_is =
    let sides = and_parts (has_sides label.area) (is_in_range label.area) area_is in
    let edges : Four = (Ok label.area.xlo, Ok label.area.ylo, Ok label.area.xhi, Ok label.area.yhi) in
    ap (λ (b : Bool). if_form b (Label (label_at (label_place raw word (rect_in edges)) label.position label.text))) text_is
    ∙ ap (λ found. Ok (Label (label_at (and_then found (λ layer. and_then (rect_in edges) (λ area. and_then (if_touched area) (λ area. Ok (layer, area)))))
    label.position label.text))) layer_is
    ∙ ap (λ found. Ok (Label (label_at (and_then found (λ area. and_then (if_touched area) (λ area. Ok (label.layer, area)))) label.position label.text)))
    (rect-read label.area sides.1)
    ∙ ap (λ (b : Bool). Ok (Label (label_at (and_then (cond b (Ok label.area) (Err EmptyRect)) (λ area. Ok (label.layer, area))) label.position label.text)))
    sides.0

numbers-read : (raw : RawTech) (label : OneLabel) (word : List ℕ) (more : List (List ℕ)) → is_in_range label.area ≡ true → is_position label.position ≡ true
    → label_line raw (word ∷ (map decimal (label_numbers label.area label.position) ++ more)) label.text
    ≡ label_line_of raw word (Ok label.area.xlo, Ok label.area.ylo, Ok label.area.xhi, Ok label.area.yhi) (Some label.position) label.text
unfolding label_behind
numbers-read raw label word more range position_is =
    let area = label.area in
    let has = has_coordinates area range in
    rw (
      number_of-decimal area.xlo (coordinate_fits area.xlo has.xlo),
      number_of-decimal area.ylo (coordinate_fits area.ylo has.ylo),
      number_of-decimal area.xhi (coordinate_fits area.xhi has.xhi),
      number_of-decimal area.yhi (coordinate_fits area.yhi has.yhi),
      position-read label.position position_is,
    )
    refl

by_rlabel : (raw : RawTech) (rest : List ℕ) → line_by_key raw (codes "rlabel") rest ≡ label_line raw (words_of rest) (label_text rest)
unfolding line_by_key
by_rlabel raw rest = refl

-- a label that is written says itself, where the word of its layer names that layer
pub says-label : (raw : RawTech) (label : OneLabel) → IsLabel raw label → IsWord (layer_word raw label.layer)
    → label_layer_in raw (layer_word raw label.layer) ≡ Ok label.layer
    → says raw (written_label raw label) ≡ Ok (Label (Ok label))
says-label raw label is word_is layer_is =
    let key = codes "rlabel" in
    let word = layer_word raw label.layer in
    let numbers = label_numbers label.area label.position in
    let words : List (List ℕ) = word ∷ map decimal numbers in
    let all : AllByRecursion IsWord words = (word_is, words-decimals numbers) in
    let key_is : IsWord key = IsWord-test key refl in
    let tail = tail_of words label.text in
    let range = (and_parts (has_sides label.area) (is_in_range label.area) is.area).1 in
    let text : label_text tail ≡ label.text = ap without_outer_blanks (after_words-tail words label.text all) ∙ text-kept label.text is.text in
    ap (says raw) (line-tail key words label.text)
    ∙ ap (λ (ws : List (List ℕ)). words_say raw ws (after_word (key ++ tail))) (words_of-tail key words label.text key_is)
    ∙ ap (λ (rest : List ℕ). line_by_key raw key rest) (after_word-tail key words label.text key_is)
    ∙ by_rlabel raw tail
    ∙ ap (λ (t : List ℕ). label_line raw (words_of tail) t) text
    ∙ ap (λ (ws : List (List ℕ)). label_line raw ws label.text) (words-tail words label.text all)
    ∙ numbers-read raw label word (words_of (32 ∷ label.text)) range is.position
    ∙ label_of-read raw label word layer_is is.area is.text

-- the word of a label's layer is a word
pub layer_word-is : (raw : RawTech) → IsWellFormed raw → (layer : Option LayerId) → IfSome layer (λ l. l.0 < length raw.layers) → IsWord (layer_word raw layer)
layer_word-is raw formed None is = IsWord-test (codes "space") refl
layer_word-is raw formed (Some layer) is = IsWord-plain_name (first_name (layer_at raw layer.0)) (first_name-plain raw formed layer.0 is)

-- a label that is written says itself
pub says-written_label : (raw : RawTech) → IsWellFormed raw → (label : OneLabel) → IsLabel raw label
    → says raw (written_label raw label) ≡ Ok (Label (Ok label))
says-written_label raw formed label is =
    says-label raw label is (layer_word-is raw formed label.layer is.layer) (label_layer-word raw formed label.layer is.layer)
