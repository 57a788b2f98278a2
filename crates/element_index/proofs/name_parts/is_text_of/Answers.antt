use Rattle.element_index.proofs.Common.{◌≡◌, sym, ap, ◌∙◌, arith, w64, to_z-of_z, bytes_eq-Decides, decimal}
use Rattle.std.specs.Fmt.{signed_decimal}
use Rattle.text_scan.proofs.DecimalLemmas.{decimal-std}
use Rattle.element_index.proofs.name_parts.is_text_of.Goals as goal

pub returns : goal.returns
returns c =
    let z = c.args.z in
    let printed = c.as_bytes.ensures.value ∙ (c.format.ensures.text ∙ ap signed_decimal (to_z-of_z w64 z c.ranges.z)) in
    let text : decimal z ≡ c.as_bytes.result.now = decimal-std z (omega (arith, c.ranges.z.sfits)) ∙ sym printed in
    let decides = bytes_eq-Decides c.as_bytes.result.now c.args.word.now in (
      (λ t. sym (decides.0 (sym c.eq.ensures ∙ t)) ∙ sym text),
      (λ e. c.eq.ensures ∙ decides.1 (sym text ∙ sym e)),
    )
