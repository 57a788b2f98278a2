use Rattle.std.proofs.Common.{◌≡◌, sym, ap, ◌∙◌, rules}
use Rattle.std.specs.Fmt.{signed_decimal}
use Rattle.std.specs.Int.{w128}
use Rattle.std.proofs.lemmas.Int.{to_z-of_z}
use Rattle.text_scan.specs.Decimal.{decimal}
use Rattle.text_scan.proofs.DecimalLemmas.{decimal-std}
use Rattle.text_scan.proofs.decimal_text.append_decimal.Goals as goal

pub returns-clause-ok : goal.returns-clause-ok
returns-clause-ok c =
    let z = c.args.value in
    let printed = c.as_bytes.ensures.value ∙ (c.format.ensures.text ∙ ap signed_decimal (to_z-of_z w128 z c.ranges.value)) in
    let text : decimal z ≡ c.as_bytes.result.now = decimal-std z c.ranges.value.sfits ∙ sym printed in
    rw text (search rules)
