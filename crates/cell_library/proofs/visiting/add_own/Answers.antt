use Rattle.cell_library.proofs.Common.{◌≡◌, ◌+◌, length, sym, subst, ◌∙◌, ap, arith, Rect, AreTilesIn, RawTech, Layout, IsMaterial, kinds_on, seen}
use Rattle.cell_library.proofs.Common.{standing_at, view_at}
use Rattle.cell_library.proofs.OwnTiles.{own_all, own_more, own_none}
use Rattle.cell_library.proofs.VisitLaws.{hull_holds_own, plane_below}
use Rattle.cell_library.proofs.visiting.add_own.Goals as goal

pub loop-plane-init : goal.loop-plane-init
loop-plane-init c = λ area near. own_none (standing_at (seen c.args.library.now) c.args.spot.now) c.args.spot.now.element area c.args.tiles.now.items

pub loop-plane-preserved : goal.loop-plane-preserved
loop-plane-preserved c = λ area near.
    let view = seen c.args.library.now in
    let spot = c.args.spot.now in
    let holds = hull_holds_own c.args.library.now spot.cell.0 near.hull c.lawful.ensures near.is in
    let adds = c.in_ok-add_plane.ensures in
    let own : AreTilesIn (kinds_on (view_at view spot.cell.0).own c.loop-plane.plane) c.args.near adds.pieces =
    subst (λ (layout : Layout). AreTilesIn (kinds_on layout c.loop-plane.plane) c.args.near adds.pieces) c.paint_of-paint.ensures.own adds.are in
    own_more view spot near.hull area c.loop-plane.plane (c.loop-plane.plane + 1) c.args.tiles.now.items c.loop-plane.tiles.items
    c.add_plane.new.tiles.items adds.pieces
    holds (c.loop-plane.invariant area near) (omega arith)
    (subst (λ (inside : Rect). AreTilesIn (kinds_on (view_at view spot.cell.0).own c.loop-plane.plane) inside adds.pieces) near.common own) adds.is

pub returns : goal.returns
returns c = λ area near.
    let view = seen c.args.library.now in
    let spot = c.args.spot.now in
    let planes = c.items.ensures ∙ ap (λ (r : RawTech). r.planes) (c.raw.ensures.value ∙ c.tech.ensures) in
    let count : length c.items.result.now ≡ length c.args.library.now.tech.planes = ap length planes in
    own_all view spot area c.loop-plane.plane c.args.tiles.now.items c.loop-plane.tiles.items
    (λ place material.
    let below = plane_below c.paint_of-paint.result.now place (subst (λ (layout : Layout). IsMaterial layout place)
    (sym c.paint_of-paint.ensures.own) material) in
    omega (arith, below, count, c.paint_of-paint.ensures.planes, c.loop-plane-test.false))
    (c.loop-plane.invariant area near)
