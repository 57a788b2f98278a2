use Rattle.offences.proofs.Common.{List, subst, Rect, IsInUnion, IsStrips, strips_same, OffendsOn, tile_parts}
use Rattle.offences.proofs.set_tiles.offending_tiles.Goals as goal

pub returns : goal.returns
returns c =
    let plane = c.args.plane in
    let parts = tile_parts c.args.tiles.now plane c.args.count in
    let pieces = c.in_ok-pieces.pieces.items in
    let cover = c.in_ok-pieces.ensures in
    let found = c.in_ok-found.found.items in
    strips_same (IsInUnion pieces) (OffendsOn c.args.tech.now parts plane) cover.sound cover.whole found
    (subst (λ (rects : List Rect). IsStrips (IsInUnion rects) found) c.as_slice.ensures.value c.in_ok-found.ensures)
