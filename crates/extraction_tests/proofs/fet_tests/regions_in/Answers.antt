-- The types of a cell's paint are those of its technology, each on its plane.
use Rattle.std.proofs.Common.{◌≤◌, length, sym, arith}
use Rattle.tech_model.specs.declared.limits.TheConstants.{MOST_PLANES}
use Rattle.cell_paint.proofs.PaintTypes.{paint_types}
use Rattle.extraction_tests.proofs.fet_tests.regions_in.Goals as goal

pub regions-requires-clause-types : goal.regions-requires-clause-types
regions-requires-clause-types c =
    let few : length c.args.cell.now.planes ≤ MOST_PLANES = omega (arith, c.requires.planes, c.raw.ensures.well_formed.planes_limit) in
    paint_types c.args.tech.now c.args.cell.now (sym c.requires.kinds) few c.box_of.ensures.sound
