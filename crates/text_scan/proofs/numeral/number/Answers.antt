use Rattle.std.proofs.Common.{◌^◌, ℤ, FitsSigned, rules, sym, ap, ◌∙◌}
use Rattle.std.specs.Int.{w128}
use Rattle.std.proofs.lemmas.Int.{to_z-of_z}
use Rattle.std.proofs.lemmas.Result.{err_from_is_err_and}
use Rattle.text_scan.specs.Numbers.{within}
use Rattle.text_scan.proofs.NumberLemmas.{number_of-ok, number_of-err}
use Rattle.text_scan.proofs.numeral.number.Goals as goal

pub returns-in_err-wide : goal.returns-in_err-wide
returns-in_err-wide c =
    let p = err_from_is_err_and c.from_residual.result c.from_residual.ensures.1 in
    rw (p.1, p.2) (sym (number_of-err c.args.word.now c.in_err-wide.field-0.0 (sym c.in_err-wide.ensures)))

pub returns : goal.returns
returns c =
    let z = c.in_ok-wide.field-0 in
    let fits : FitsSigned w128 z = search rules in
    c.narrow.ensures
    ∙ (ap (λ (y : ℤ). within (2 ^ 63) y) (to_z-of_z w128 z fits)
    ∙ sym (number_of-ok c.args.word.now z (sym c.in_ok-wide.ensures)))
