use Rattle.std.proofs.Common.{◌≡◌, ◌∙◌, sym, ap}
use Rattle.std.specs.Fmt.{signed_decimal}
use Rattle.std.specs.Int.{w64, w128}
use Rattle.std.proofs.Math.Facts.{sfits_widen}
use Rattle.std.proofs.lemmas.Bool.Decides.{Decides-eqb}
use Rattle.std.proofs.lemmas.Int.{to_z-of_z}
use Rattle.std.proofs.lemmas.Slice.Eq.{slice_eq-Decides}
use Rattle.text_scan.specs.Decimal.{decimal}
use Rattle.text_scan.proofs.DecimalLemmas.{decimal-std}
use Rattle.merge_rows.proofs.Tests.{told_same}
use Rattle.merge_rows.proofs.paths.is_text_of.Goals as goal

pub returns : goal.returns
returns c =
    let z = c.args.number in
    let printed = c.as_bytes.ensures.value ∙ (c.format.ensures.text ∙ ap signed_decimal (to_z-of_z w64 z c.ranges.number)) in
    let text : decimal z ≡ c.as_bytes.result.now = decimal-std z (sfits_widen {w = w64} {w' = w128} tt c.ranges.number).sfits ∙ sym printed in
    told_same c.eq.result c.as_bytes.result.now c.args.word.now (decimal z) text
    (slice_eq-Decides Decides-eqb c.as_bytes.result.now c.args.word.now c.eq.result c.eq.ensures)
