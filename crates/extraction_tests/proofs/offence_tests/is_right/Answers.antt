use Rattle.std.proofs.Common.{sym, subst}
use Rattle.std.specs.Prelude.{All}
use Rattle.layout_model.specs.LayerTypes.{AreTypesOf}
use Rattle.cell_paint.specs.Paints.{seen_kind}
use Rattle.extraction_tests.proofs.offence_tests.is_right.Goals as goal

pub offending-requires-clause-types : goal.offending-requires-clause-types
offending-requires-clause-types c =
    subst (All (λ part. AreTypesOf c.args.tech.now (seen_kind part))) (sym c.as_slice.ensures.value) c.in_ok-parts.ensures
