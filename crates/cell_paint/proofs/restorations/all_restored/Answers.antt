use Rattle.cell_paint.proofs.Common.{Layout, with_pieces}
use Rattle.cell_paint.proofs.PaintLaws.{changes_more}
use Rattle.cell_paint.proofs.PieceLaws.{restored_changes, standing_settable}
use Rattle.cell_paint.proofs.restorations.all_restored.Goals as goal

pub restored-requires-clause-settable : goal.restored-requires-clause-settable
restored-requires-clause-settable c =
    standing_settable c.args.area c.args.count c.args.pieces.now c.loop-plane.plane c.requires.near c.requires.pieces

pub loop-plane-preserved : goal.loop-plane-preserved
loop-plane-preserved c =
    let area = c.args.area in
    let pieces = c.args.pieces.now in
    let more = λ (layout : Layout).
    changes_more layout (with_pieces area pieces layout) c.loop-plane.changes.items c.add_restored.new.changes.items c.in_ok-restored.field-0
    c.loop-plane.plane c.loop-plane.invariant.long c.in_ok-add_restored.ensures
    (restored_changes area pieces layout c.loop-plane.plane c.in_ok-restored.field-0.items c.in_ok-restored.ensures.pieces)
    (c.loop-plane.invariant.each layout) in
    record { long = (more (λ place. 0)).0; each = λ layout. (more layout).1 }
