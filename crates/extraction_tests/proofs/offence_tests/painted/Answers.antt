-- The types of a part's paint are those of its technology, each on its plane.
use Rattle.std.proofs.Common.{◌≤◌, length, sym, arith}
use Rattle.tech_model.specs.declared.limits.TheConstants.{MOST_PLANES}
use Rattle.cell_paint.proofs.PaintTypes.{paint_types}
use Rattle.extraction_tests.proofs.offence_tests.painted.Goals as goal

pub returns : goal.returns
returns c =
    let kept = c.loop-name.invariant in
    let few : length c.loop-name.part.planes ≤ MOST_PLANES = omega (arith, kept.planes, c.raw.ensures.well_formed.planes_limit) in
    paint_types c.args.tech.now c.loop-name.part (sym kept.kinds) few c.sound.ensures
