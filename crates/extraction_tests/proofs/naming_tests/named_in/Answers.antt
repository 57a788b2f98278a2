use Rattle.std.proofs.Common.{◌≤◌, pos, negsuc, length, sym, arith, subst}
use Rattle.tech_model.specs.declared.limits.TheConstants.{MOST_PLANES}
use Rattle.cell_paint.specs.Paints.{seen_kind}
use Rattle.names.proofs.TypedTiles.{seen_typed}
use Rattle.cell_paint.proofs.PaintTypes.{paint_types}
use Rattle.extraction_tests.proofs.naming_tests.named_in.Goals as goal

pub regions-requires-clause-types : goal.regions-requires-clause-types
regions-requires-clause-types c =
    let few : length c.args.cell.now.planes ≤ MOST_PLANES = omega (arith, c.requires.planes, c.raw.ensures.well_formed.planes_limit) in
    paint_types c.args.tech.now c.args.cell.now (sym c.requires.kinds) few c.box_of.ensures.sound

pub name_nodes-requires-clause-kinds : goal.name_nodes-requires-clause-kinds
name_nodes-requires-clause-kinds c =
    let few : length c.args.cell.now.planes ≤ MOST_PLANES = omega (arith, c.requires.planes, c.raw.ensures.well_formed.planes_limit) in
    let types = paint_types c.args.tech.now c.args.cell.now (sym c.requires.kinds) few c.box_of.ensures.sound in
    seen_typed c.args.tech.now (record { xlo = negsuc 998; ylo = negsuc 998; xhi = pos 999; yhi = pos 999 }) (seen_kind c.args.cell.now)
    _ types c.in_ok-found.ensures.are_tiles
