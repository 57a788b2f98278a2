use Rattle.std.specs.Prelude.{All}
use Rattle.layout_model.specs.LayerTypes.{AreTypesOf}
use Rattle.cell_paint.specs.Paints.{seen_kind}
use Rattle.extraction_tests.proofs.offence_tests.painted_parts.Given as goal

abbrev pub invariant-loop-paints : goal.invariant-loop-paints
invariant-loop-paints l = All (λ part. AreTypesOf l.tech (seen_kind part)) l.parts.items
