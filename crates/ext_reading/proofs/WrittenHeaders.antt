-- A written header is read back.
use Rattle.ext_reading.proofs.Common.{◌≡◌, ◌≤◌, ◌<◌, ◌==◌, ℕ, Bool, true, false, cond, List, [], ◌∷◌, length, map, Ok, Err, refl, ap, ◌∙◌, arith}
use Rattle.ext_reading.proofs.Common.{codes, nat_le, Some, None, AllByRecursion, nat_tests, length-map, decimal, IsWord, line_of, IsWord-test}
use Rattle.ext_reading.proofs.Common.{first_fault_or, MOST_CLASSES, is_word, Range, GREATEST_CLASS_VALUE, Seen, Two, HeaderLine, Tech, Timestamp}
use Rattle.ext_reading.proofs.Common.{Version, Style, Scale, Classes, Header, Outline, words_say, class_values_from, class_values_in, Draft}
use Rattle.ext_reading.proofs.Common.{nothing_yet, takes, step}
use Rattle.std.specs.Prelude.{pos, Option}
use Rattle.ext_text.specs.WrittenTexts.{header_words}
use Rattle.ext_reading.specs.declared.lines.Version as lines
use Rattle.ext_reading.proofs.WrittenWords.{IsWord-word, values_said, words-values, class_values_from-values}
use Rattle.ext_reading.proofs.WrittenLines.{says_tech, says_classes}
use Rattle.ext_reading.proofs.WrittenSteps.{made, step_is}
use Rattle.ext_reading.proofs.WrittenParts.{passes}

-- so much of the header has been read
abbrev seen_of : Bool → Bool → Bool → Bool → Seen
seen_of timestamp version style scale = record { tech = true; timestamp = timestamp; version = version; style = style; scale = scale; classes = false }

abbrev headed : List ℕ → Option lines.Version → Seen → Draft
headed tech version seen = record nothing_yet { seen = seen; version = version; tech = tech }

before_last : (k last : ℕ) → k < last → (k == last) ≡ false
before_last k last below = grind (arith, nat_tests)

-- a line of the header that is not the last line
early_step : (outline : Outline) (number : ℕ) (draft next : Draft) (words : List (List ℕ)) (header : HeaderLine) → number < outline.last
    → AllByRecursion IsWord words
    → words_say words ≡ Ok (Header header) → takes outline false draft (Header header) ≡ Ok next → step outline number draft (line_of words) ≡ Ok next
early_step outline number draft next words header early all says taken =
    step_is outline number draft next words (Header header) all says
    (ap (λ (b : Bool). takes outline b draft (Header header)) (before_last number outline.last early) ∙ taken)

class_values_in-said : (classes : List ℕ) → AllByRecursion (λ v. v ≤ GREATEST_CLASS_VALUE) classes → length classes ≤ MOST_CLASSES
    → class_values_in (values_said classes) ≡ Ok classes
class_values_in-said classes values few =
    let count = length-map classes (λ (value : ℕ). Some (pos value)) in
    let fits : nat_le (length (values_said classes)) MOST_CLASSES ≡ true = grind (arith, nat_tests) in
    ap (λ (b : Bool). cond b (class_values_from [] (values_said classes)) (Err Range)) fits ∙ class_values_from-values [] classes values

last_taken : (outline : Outline) (tech classes : List ℕ) (is_last : Bool) → class_values_in (values_said classes) ≡ Ok classes
    → takes outline is_last (headed tech (Some Two) (seen_of true true true true)) (Header (Classes (values_said classes)))
    ≡ Ok (made false tech classes [] [] [] [] [] [])
last_taken outline tech classes true e = rw e refl
last_taken outline tech classes false e = rw e refl

pub header_back : (outline : Outline) (tech classes : List ℕ) → is_word tech ≡ true → AllByRecursion (λ v. v ≤ GREATEST_CLASS_VALUE) classes
    → length classes ≤ MOST_CLASSES → 6 ≤ outline.last
    → first_fault_or (step outline) 1 nothing_yet (map line_of (header_words (codes "2") tech classes)) ≡ Ok (made false tech classes [] [] [] [] [] [])
header_back outline tech classes named values few long =
    let none = seen_of false false false false in
    let second : Option lines.Version = Some Two in
    let one = early_step outline 1 nothing_yet (headed tech None none) (codes "tech" ∷ tech ∷ []) (Tech tech) (omega arith)
    (IsWord-test (codes "tech") refl, (IsWord-word tech named, tt)) (says_tech tech named) refl in
    let two = early_step outline 2 (headed tech None none) (headed tech None (seen_of true false false false)) (codes "timestamp" ∷ codes "0" ∷ []) Timestamp
    (omega arith)
    (IsWord-test (codes "timestamp") refl, (IsWord-test (codes "0") refl, tt)) refl refl in
    let three = early_step outline 3 (headed tech None (seen_of true false false false)) (headed tech second (seen_of true true false false))
    (codes "version" ∷ codes "2" ∷ []) (Version Two) (omega arith)
    (IsWord-test (codes "version") refl, (IsWord-test (codes "2") refl, tt)) refl refl in
    let four = early_step outline 4 (headed tech second (seen_of true true false false)) (headed tech second (seen_of true true true false))
    (codes "style" ∷ tech ∷ [])
    Style (omega arith)
    (IsWord-test (codes "style") refl, (IsWord-word tech named, tt)) refl refl in
    let five = early_step outline 5 (headed tech second (seen_of true true true false)) (headed tech second (seen_of true true true true))
    (codes "scale" ∷ codes "1" ∷ codes "1" ∷ codes "1" ∷ []) Scale (omega arith)
    (IsWord-test (codes "scale") refl, (IsWord-test (codes "1") refl, (IsWord-test (codes "1") refl, (IsWord-test (codes "1") refl, tt)))) refl refl in
    let six = step_is outline 6 (headed tech second (seen_of true true true true)) (made false tech classes [] [] [] [] [] [])
    (codes "resistclasses" ∷ map (λ value. decimal (pos value)) classes)
    (Header (Classes (values_said classes))) (IsWord-test (codes "resistclasses") refl, words-values classes) (says_classes classes values)
    (last_taken outline tech classes (6 == outline.last) (class_values_in-said classes values few)) in
    let classes_line = line_of (codes "resistclasses" ∷ map (λ value. decimal (pos value)) classes) in
    let scale_line = line_of (codes "scale" ∷ codes "1" ∷ codes "1" ∷ codes "1" ∷ []) in
    let style_line = line_of (codes "style" ∷ tech ∷ []) in
    let version_line = line_of (codes "version" ∷ codes "2" ∷ []) in
    let timestamp_line = line_of (codes "timestamp" ∷ codes "0" ∷ []) in
    let behind_4 = scale_line ∷ classes_line ∷ [] in
    let behind_3 = style_line ∷ behind_4 in
    let behind_2 = version_line ∷ behind_3 in
    passes outline 1 nothing_yet (headed tech None none) (line_of (codes "tech" ∷ tech ∷ [])) (timestamp_line ∷ behind_2) one
    ∙ (passes outline 2 (headed tech None none) (headed tech None (seen_of true false false false)) timestamp_line behind_2 two
    ∙ (passes outline 3 (headed tech None (seen_of true false false false)) (headed tech second (seen_of true true false false)) version_line behind_3 three
    ∙ (passes outline 4 (headed tech second (seen_of true true false false)) (headed tech second (seen_of true true true false)) style_line behind_4 four
    ∙ (passes outline 5 (headed tech second (seen_of true true true false)) (headed tech second (seen_of true true true true))
    scale_line (classes_line ∷ []) five
    ∙ passes outline 6 (headed tech second (seen_of true true true true)) (made false tech classes [] [] [] [] [] []) classes_line [] six))))
