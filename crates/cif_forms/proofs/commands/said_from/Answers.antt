use Rattle.cif_forms.proofs.Common.{◌≡◌, ◌∷◌, true, sym, ap, ◌∙◌, is_ascii_digit, layer_said, said_from}
use Rattle.std.proofs.Common.{IfOk, subst}
use Rattle.std.proofs.lemmas.List.{nil_from_length}
use Rattle.cif_forms.proofs.FormLaws.{said_from-digit}
use Rattle.cif_forms.proofs.commands.said_from.Goals as goal

pub returns-in_default : goal.returns-in_default
returns-in_default c = sym (ap said_from (nil_from_length c.args.bytes.now c.in_default.ensures.cases))

pub returns-then-is_ascii_digit : goal.returns-then-is_ascii_digit
returns-then-is_ascii_digit c =
    let digit : is_ascii_digit c.in-Some.first.now ≡ true = sym c.is_ascii_digit.ensures.value ∙ c.if-is_ascii_digit.true in
    sym (ap said_from c.in-Some.ensures.cases.0 ∙ said_from-digit c.in-Some.first.now c.in-Some.rest.now digit)

pub returns-in-69 : goal.returns-in-69
returns-in-69 c = sym (ap said_from (c.in-Some.ensures.cases.0 ∙ ap (λ first. first ∷ c.in-Some.rest.now) c.in-69.is))

pub returns-in-76 : goal.returns-in-76
returns-in-76 c =
    let is = c.in-Some.ensures.cases.0 ∙ ap (λ first. first ∷ c.in-Some.rest.now) c.in-76.is in
    subst (λ it. IfOk c.layer_said.result (λ said. said ≡ it)) (ap layer_said c.trimmed.ensures ∙ sym (ap said_from is)) c.layer_said.ensures
