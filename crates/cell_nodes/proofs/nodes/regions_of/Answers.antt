-- All paint lies within the range, so what is seen there is the paint's layout.
use Rattle.cell_nodes.proofs.Common.{◌≤◌, length, sym, subst, arith, MOST_PLANES, connects, Layout, AreRegions}
use Rattle.cell_paint.proofs.PaintTypes.{paint_has_types, paint_types}
use Rattle.cell_nodes.proofs.PaintLaws.{all_seen, paint_is_near}
use Rattle.cell_nodes.proofs.nodes.regions_of.Goals as goal

pub regions-requires-clause-types : goal.regions-requires-clause-types
regions-requires-clause-types c =
    let few : length c.args.paint.now.planes ≤ MOST_PLANES = omega (arith, c.requires.planes, c.raw.ensures.well_formed.planes_limit) in
    paint_types c.args.tech.now c.args.paint.now (sym c.requires.kinds) few c.box_of.ensures.sound

pub returns-in_err-found-clause-types : goal.returns-in_err-found-clause-types
returns-in_err-found-clause-types c =
    let few : length c.args.paint.now.planes ≤ MOST_PLANES = omega (arith, c.requires.planes, c.raw.ensures.well_formed.planes_limit) in
    paint_has_types c.args.tech.now c.args.paint.now (sym c.requires.kinds) few c.box_of.ensures.sound

pub returns-in_err-found-clause-near : goal.returns-in_err-found-clause-near
returns-in_err-found-clause-near c =
    let well = c.raw.ensures.well_formed in
    let few : length c.args.paint.now.planes ≤ MOST_PLANES = omega (arith, c.requires.planes, well.planes_limit) in
    paint_is_near c.args.tech.now c.args.paint.now (sym c.requires.kinds) few well.planes_limit well.type_planes c.box_of.ensures.sound

pub returns-clause-regions : goal.returns-clause-regions
returns-clause-regions c =
    let found = c.in_ok-found.found in
    subst (λ (layout : Layout). AreRegions (connects c.args.tech.now) layout found.tiles found.count)
    (all_seen c.args.paint.now c.box_of.ensures.sound) c.in_ok-found.ensures

pub returns-clause-types : goal.returns-clause-types
returns-clause-types c =
    let few : length c.args.paint.now.planes ≤ MOST_PLANES = omega (arith, c.requires.planes, c.raw.ensures.well_formed.planes_limit) in
    paint_has_types c.args.tech.now c.args.paint.now (sym c.requires.kinds) few c.box_of.ensures.sound

pub returns-clause-near : goal.returns-clause-near
returns-clause-near c =
    let well = c.raw.ensures.well_formed in
    let few : length c.args.paint.now.planes ≤ MOST_PLANES = omega (arith, c.requires.planes, well.planes_limit) in
    paint_is_near c.args.tech.now c.args.paint.now (sym c.requires.kinds) few well.planes_limit well.type_planes c.box_of.ensures.sound
