use Rattle.offences.proofs.Common.{List, subst, Rect, IsInUnion, IsStrips, strips_same, OffendsOn}
use Rattle.offences.proofs.pieces.offending_stacks.Goals as goal

pub returns : goal.returns
returns c = λ parts plane are.
    let pieces = c.in_ok-pieces.pieces.items in
    let cover = c.in_ok-pieces.ensures parts plane are in
    let found = c.in_ok-found.found.items in
    strips_same (IsInUnion pieces) (OffendsOn c.args.tech.now parts plane) cover.sound cover.whole found
    (subst (λ (rects : List Rect). IsStrips (IsInUnion rects) found) c.as_slice.ensures.value c.in_ok-found.ensures)
