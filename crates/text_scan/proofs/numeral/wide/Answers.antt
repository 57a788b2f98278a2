use Rattle.std.proofs.Common.{◌^◌, ℕ, Bool, List, sym, ap, ◌∙◌}
use Rattle.std.proofs.lemmas.Result.{err_from_is_err_and}
use Rattle.text_scan.specs.Numbers.{natural_of, with_sign, within}
use Rattle.text_scan.proofs.NumberLemmas.{capped, wide_of-ok, wide_of-err}
use Rattle.text_scan.proofs.numeral.wide.Goals as goal

pub returns-in_err-magnitude : goal.returns-in_err-magnitude
returns-in_err-magnitude c =
    let p = err_from_is_err_and c.from_residual.result c.from_residual.ensures.1 in
    let magnitude = c.in_err-magnitude.ensures ∙ ap (λ (digits : List ℕ). capped (natural_of digits)) c.split_minus-negative.ensures.digits in
    rw (p.1, p.2) (sym (wide_of-err c.args.word.now c.in_err-magnitude.field-0.0 (sym magnitude)))

pub returns : goal.returns
returns c =
    let magnitude = c.in_ok-magnitude.ensures ∙ ap (λ (digits : List ℕ). capped (natural_of digits)) c.split_minus-negative.ensures.digits in
    c.with_sign.ensures
    ∙ (ap (λ (negative : Bool). within (2 ^ 127) (with_sign negative c.in_ok-magnitude.field-0)) c.split_minus-negative.ensures.negative
    ∙ sym (wide_of-ok c.args.word.now c.in_ok-magnitude.field-0 (sym magnitude)))
