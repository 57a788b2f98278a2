use Rattle.cif_expansion.proofs.Common.{[], ◌∷◌, err_from_is_err_and, LeavesRange}
use Rattle.cif_expansion.proofs.DrawnLaws.{drawn_next, outside_there, range_fault_weaker}
use Rattle.cif_expansion.proofs.drawing.Drawing.draw_items.Goals as goal

pub returns-in_err-draw_item-clause-refused : goal.returns-in_err-draw_item-clause-refused
returns-in_err-draw_item-clause-refused c =
    let items = c.args.items.now in
    let placements = c.args.placements.now in
    let item = c.item-item.result in
    let p = err_from_is_err_and c.from_residual.result c.from_residual.ensures.1 in
    rw (p.1, p.2) (range_fault_weaker (LeavesRange (item ∷ []) placements) (LeavesRange items placements) c.in_err-draw_item.field-0.0
    (outside_there items c.loop-item.item-index item placements c.loop-item-test.true c.item-item.is) c.in_err-draw_item.ensures.refused)

pub loop-item-preserved : goal.loop-item-preserved
loop-item-preserved c =
    drawn_next c.args.items.now c.loop-item.item-index c.item-item.result c.args.placements.now _ _ _ _ _ _ c.loop-item-test.true c.item-item.is
    c.loop-item.invariant c.in_ok-draw_item.ensures.drawn
