-- Each plane is gathered in turn, and past the last there is no material.
use Rattle.flood_nodes.proofs.Common.{◌+◌, List, length, sym, ◌∙◌, ap, subst, arith, Rect, RawTech, TypeId, seen_in}
use Rattle.tech_model.specs.LayerTiles.{AreTilesOf}
use Rattle.flood_nodes.proofs.GatherLaws.{HasGathered, gathered_none, gathered_more, gathered_all, gathered_typed}
use Rattle.flood_nodes.proofs.gathering.gather.Goals as goal

pub loop-plane-init : goal.loop-plane-init
loop-plane-init g c = gathered_none _ _ c.new-tiles.ensures.items

pub loop-plane-preserved : goal.loop-plane-preserved
loop-plane-preserved g c =
    let kinds = g.Y.Layers.kind c.args.layers.now in
    let plane = c.loop-plane.plane in
    let are = subst (λ (v : List (Rect × TypeId)). AreTilesOf (kinds plane) c.args.area v) (sym c.as_slice.ensures.value) c.in_ok-found.ensures in
    subst (HasGathered (plane + 1) (seen_in c.args.area kinds)) (sym c.in_ok-push_tiles.ensures)
    (gathered_more c.args.area kinds plane c.as_slice.result.now c.loop-plane.tiles.items c.requires.near c.loop-plane.invariant are)

pub returns-clause-tiles : goal.returns-clause-tiles
returns-clause-tiles g c =
    let kinds = g.Y.Layers.kind c.args.layers.now in
    let so_many = ap length c.items.ensures ∙ ap (λ (v : RawTech). length v.planes) c.raw.ensures.value in
    let last = c.loop-plane-test.false in
    gathered_all c.args.tech.now c.args.area kinds c.loop-plane.plane c.loop-plane.tiles.items c.raw.ensures.well_formed c.requires.types
    (omega (arith, so_many, last)) c.loop-plane.invariant

pub returns-clause-typed : goal.returns-clause-typed
returns-clause-typed g c =
    let kinds = g.Y.Layers.kind c.args.layers.now in
    let so_many = ap length c.items.ensures ∙ ap (λ (v : RawTech). length v.planes) c.raw.ensures.value in
    let last = c.loop-plane-test.false in
    gathered_typed c.args.tech.now c.args.area kinds _ c.requires.types (gathered_all c.args.tech.now c.args.area kinds c.loop-plane.plane
    c.loop-plane.tiles.items c.raw.ensures.well_formed c.requires.types (omega (arith, so_many, last)) c.loop-plane.invariant)
