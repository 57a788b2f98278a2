use Rattle.cif_forms.proofs.Common.{Err, sym, ap, ◌∙◌, arith, Empty, Digit, Number}
use Rattle.std.proofs.Common.{FitsSigned, rules}
use Rattle.std.specs.Int.{w64}
use Rattle.std.proofs.lemmas.Int.{to_z-of_z}
use Rattle.cif_forms.proofs.NumberLaws.{held-ok, held-past, held-none}
use Rattle.cif_forms.proofs.words.held.Goals as goal

pub returns-in-Ok : goal.returns-in-Ok
returns-in-Ok c =
    let fits : FitsSigned w64 c.max.result = search rules in
    let is = held-ok c.args.word.now c.in-Ok.value (sym c.in-Ok.ensures) in
    ap Number (to_z-of_z w64 c.max.result fits) ∙ (ap Number (grind arith) ∙ sym is)

pub returns-in-Err-Range : goal.returns-in-Err-Range
returns-in-Err-Range c =
    let fits : FitsSigned w64 c.past_all.result = search rules in
    let is = held-past c.args.word.now (sym c.in-Err-Range.ensures ∙ ap Err c.in-Err-Range.field-0-is) in
    ap Number (to_z-of_z w64 c.past_all.result fits) ∙ (ap Number c.past_all.ensures ∙ sym is)

pub returns-in-Err-Empty : goal.returns-in-Err-Empty
returns-in-Err-Empty c =
    sym (held-none c.args.word.now Empty (λ same. absurd (cc)) (sym c.in-Err-Empty.ensures ∙ ap Err c.in-Err-Empty.field-0-is))

pub returns-in-Err-Digit : goal.returns-in-Err-Digit
returns-in-Err-Digit c =
    sym (held-none c.args.word.now Digit (λ same. absurd (cc)) (sym c.in-Err-Digit.ensures ∙ ap Err c.in-Err-Digit.field-0-is))
