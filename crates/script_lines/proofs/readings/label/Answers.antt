use Rattle.script_lines.proofs.Common.{◌≡◌, sym, ap, ◌∙◌, true, false, arith, Ok, Err, List, ℕ, ℤ, pos, rules, common_steps, words_of, is_label_text}
use Rattle.script_lines.proofs.Common.{without_outer_blanks, BadForm, is_between, behind, label_given, LAST_POSITION, label_kinds}
use Rattle.std.proofs.Common.{to_z, of_z, w64}
use Rattle.script_lines.specs.Arguments.{read_words, words_and_text}
use Rattle.script_lines.proofs.LabelLaws.{AreFound, label-none, label-bad, label-text-bad, label-outside, label-no-position, label-read}
use Rattle.script_lines.proofs.readings.label.Goals as goal

pub returns-in_err-layer-clause-refused : goal.returns-in_err-layer-clause-refused
returns-in_err-layer-clause-refused c =
    let e : read_words label_kinds (words_and_text 6 c.args.line.now) ≡ Err BadForm = label-none c.args.line.now c.in_err-layer.ensures.words.1 in
    grind (arith, common_steps)

pub returns-in_err-numbers-clause-refused : goal.returns-in_err-numbers-clause-refused
returns-in_err-numbers-clause-refused c =
    let e : read_words label_kinds (words_and_text 6 c.args.line.now) ≡ Err BadForm =
    label-bad c.args.line.now c.in_ok-layer.layer.now c.next_word.new.rest.now c.in_ok-layer.ensures.words c.in_ok-layer.ensures.behind
    c.in_err-numbers.ensures.formed.1 in
    grind (arith, common_steps)

pub returns-then-not-is_label_text-clause-refused : goal.returns-then-not-is_label_text-clause-refused
returns-then-not-is_label_text-clause-refused c =
    let rest = c.next_word.new.rest.now in
    let no : is_label_text (without_outer_blanks (behind 5 rest)) ≡ false =
    ap (λ (left : List ℕ). is_label_text (without_outer_blanks left)) (sym c.in_ok-numbers.ensures.behind)
    ∙ ap is_label_text (sym c.without_outer_blanks-text.ensures) ∙ sym c.is_label_text.ensures ∙ c.if-not-is_label_text.true in
    λ other. label-text-bad c.args.line.now c.in_ok-layer.layer.now rest c.in_ok-layer.ensures.words c.in_ok-layer.ensures.behind
    c.in_ok-numbers.ensures.formed no

pub returns-in_err-ok_or-clause-refused : goal.returns-in_err-ok_or-clause-refused
returns-in_err-ok_or-clause-refused c =
    let rest = c.next_word.new.rest.now in
    let yes : is_label_text (without_outer_blanks (behind 5 rest)) ≡ true =
    ap (λ (left : List ℕ). is_label_text (without_outer_blanks left)) (sym c.in_ok-numbers.ensures.behind)
    ∙ ap is_label_text (sym c.without_outer_blanks-text.ensures) ∙ sym c.is_label_text.ensures ∙ c.if-not-is_label_text.false in
    let numbers : AreFound (words_of rest) c.in_ok-numbers.numbers =
    record { begun = c.in_ok-numbers.ensures.formed; values = c.in_ok-numbers.ensures.values; fit = c.in_ok-numbers.ensures.fitting } in
    let e : read_words label_kinds (words_and_text 6 c.args.line.now) ≡ Err c.in_err-ok_or.field-0.0 =
    label-outside c.args.line.now c.in_ok-layer.layer.now rest c.in_ok-numbers.numbers c.in_err-ok_or.field-0.0
    c.in_ok-layer.ensures.words c.in_ok-layer.ensures.behind numbers yes (sym c.ok_or.ensures.value ∙ c.in_err-ok_or.was) in
    grind (arith, common_steps)

pub returns-then-not-is_between-clause-refused : goal.returns-then-not-is_between-clause-refused
returns-then-not-is_between-clause-refused c =
    let rest = c.next_word.new.rest.now in
    let yes : is_label_text (without_outer_blanks (behind 5 rest)) ≡ true =
    ap (λ (left : List ℕ). is_label_text (without_outer_blanks left)) (sym c.in_ok-numbers.ensures.behind)
    ∙ ap is_label_text (sym c.without_outer_blanks-text.ensures) ∙ sym c.is_label_text.ensures ∙ c.if-not-is_label_text.false in
    let numbers : AreFound (words_of rest) c.in_ok-numbers.numbers =
    record { begun = c.in_ok-numbers.ensures.formed; values = c.in_ok-numbers.ensures.values; fit = c.in_ok-numbers.ensures.fitting } in
    let found = c.area_and_position_of-position in
    λ other. label-no-position c.args.line.now c.in_ok-layer.layer.now rest c.in_ok-numbers.numbers c.in_ok-ok_or.field-0 found.result.0 found.result.1
    c.in_ok-layer.ensures.words c.in_ok-layer.ensures.behind numbers yes (sym c.ok_or.ensures.value ∙ c.in_ok-ok_or.was) found.ensures
    (grind (arith, common_steps))

pub returns-clause-read : goal.returns-clause-read
returns-clause-read c =
    let rest = c.next_word.new.rest.now in
    let yes : is_label_text (without_outer_blanks (behind 5 rest)) ≡ true =
    ap (λ (left : List ℕ). is_label_text (without_outer_blanks left)) (sym c.in_ok-numbers.ensures.behind)
    ∙ ap is_label_text (sym c.without_outer_blanks-text.ensures) ∙ sym c.is_label_text.ensures ∙ c.if-not-is_label_text.false in
    let numbers : AreFound (words_of rest) c.in_ok-numbers.numbers =
    record { begun = c.in_ok-numbers.ensures.formed; values = c.in_ok-numbers.ensures.values; fit = c.in_ok-numbers.ensures.fitting } in
    let found = c.area_and_position_of-position in
    let text : without_outer_blanks (behind 5 rest) ≡ c.without_outer_blanks-text.result.now =
    ap without_outer_blanks (sym c.in_ok-numbers.ensures.behind) ∙ sym c.without_outer_blanks-text.ensures in
    let back : to_z w64 (of_z w64 found.result.1) ≡ found.result.1 = search rules in
    let last : to_z w64 (of_z w64 c.from.result) ≡ pos LAST_POSITION = ap (λ (z : ℤ). to_z w64 (of_z w64 z)) c.from.ensures in
    let inside : is_between (pos 0) (pos LAST_POSITION) found.result.1 ≡ true =
    ap (λ (greatest : ℤ). is_between (pos 0) greatest found.result.1) (sym last)
    ∙ ap (is_between (pos 0) (to_z w64 (of_z w64 c.from.result))) (sym back) ∙ sym c.is_between.ensures ∙ c.if-not-is_between.false in
    let e : read_words label_kinds (words_and_text 6 c.args.line.now)
    ≡ Ok (label_given c.in_ok-layer.layer.now found.result.0 found.result.1 c.without_outer_blanks-text.result.now) =
    label-read c.args.line.now c.in_ok-layer.layer.now rest c.in_ok-numbers.numbers c.in_ok-ok_or.field-0 found.result.0 found.result.1
    c.in_ok-layer.ensures.words c.in_ok-layer.ensures.behind numbers yes (sym c.ok_or.ensures.value ∙ c.in_ok-ok_or.was) found.ensures
    inside
    ∙ ap (λ (t : List ℕ). Ok (label_given c.in_ok-layer.layer.now found.result.0 found.result.1 t)) text in
    e
    ∙ ap (λ (layer : List ℕ). Ok (label_given layer found.result.0 found.result.1 c.without_outer_blanks-text.result.now)) (sym c.in_ok-of.ensures)
    ∙ ap (λ (z : ℤ). Ok (label_given c.in_ok-of.field-0 found.result.0 z c.without_outer_blanks-text.result.now)) (sym back)
    ∙ ap (λ (t : List ℕ). Ok (label_given c.in_ok-of.field-0 found.result.0 (to_z w64 (of_z w64 found.result.1)) t)) (sym c.in_ok-of-2.ensures)
