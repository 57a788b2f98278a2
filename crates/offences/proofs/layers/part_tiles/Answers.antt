use Rattle.offences.proofs.Common.{◌≡◌, ◌++◌, List, map, ap, ◌∙◌, Rect, TypeId, layer_tile}
use Rattle.offences.proofs.LayerLaws.{no_part_tiles, next_part_tiles, all_part_tiles}
use Rattle.offences.proofs.layers.part_tiles.Goals as goal

pub loop-number-init : goal.loop-number-init
loop-number-init g c = no_part_tiles c.args.raw.now c.args.plane c.args.area c.new-gathered.result.items c.new-gathered.ensures.items

pub loop-number-preserved : goal.loop-number-preserved
loop-number-preserved g c =
    let raw = c.args.raw.now in
    let i = c.loop-number.number in
    let before = c.loop-number.gathered.items in
    let after = c.push_tiles.new.gathered.items in
    let found = c.in_ok-tiles.tiles.items in
    let made : after ≡ before ++ map (layer_tile raw i) found =
    c.in_ok-push_tiles.ensures ∙ ap (λ (tiles : List (Rect × TypeId)). before ++ map (layer_tile raw i) tiles) c.as_slice.ensures.value in
    next_part_tiles raw c.args.plane c.args.area g.Y.Layers.kind c.args.parts.now i c.index-parts-number.result c.loop-number-test.true c.index-parts-number.is
    before after found c.loop-number.invariant c.in_ok-tiles.ensures made

pub returns : goal.returns
returns g c =
    all_part_tiles c.args.raw.now c.args.plane c.args.area g.Y.Layers.kind c.args.parts.now c.loop-number.number c.loop-number-test.false
    c.loop-number.gathered.items c.loop-number.invariant
