use Rattle.hier_merge.proofs.Common.{List, ◌++◌, ap, subst, sym, ◌∙◌, option_to_list, All, Rect, Layout, parts_in, IsLawfulBox, seen, tree_at}
use Rattle.hier_merge.proofs.Common.{HoldParts, PaintBoxIs}
use Rattle.cell_library.specs.CellPaint.Paints.{layout_of}
use Rattle.hier_merge.proofs.PartBoxLaws.{boxes_hold_parts, boxes_lawful, paint_box}
use Rattle.hier_merge.proofs.interactions.part_boxes.Goals as goal

pub returns-clause-lawful : goal.returns-clause-lawful
returns-clause-lawful g c =
    let paint = c.open.result.now in
    let boxes = c.in_ok-boxes.ensures ∙ ap (λ (xs : List Rect). option_to_list c.box_of-own.result ++ xs) c.as_slice.ensures.value in
    subst (λ (xs : List Rect). All IsLawfulBox xs) (sym boxes)
    (boxes_lawful paint.kinds (layout_of paint) c.box_of-own.result c.in_ok-elements.elements.items c.box_of-own.ensures.sound
    (paint_box (layout_of paint) c.box_of-own.result c.box_of-own.ensures.none c.box_of-own.ensures.smallest) c.in_ok-elements.ensures.lawful)

pub returns-clause-hold : goal.returns-clause-hold
returns-clause-hold g c =
    let paint = c.open.result.now in
    let boxes = c.in_ok-boxes.ensures ∙ ap (λ (xs : List Rect). option_to_list c.box_of-own.result ++ xs) c.as_slice.ensures.value in
    let library = c.args.library.now in
    let own = paint_box (layout_of paint) c.box_of-own.result c.box_of-own.ensures.none c.box_of-own.ensures.smallest in
    subst (λ (xs : List Rect). HoldParts xs (parts_in library.tech (tree_at (seen library) c.args.cell.0))) (sym boxes)
    (boxes_hold_parts library.tech (seen library) c.args.cell.0 c.box_of-own.result c.in_ok-elements.elements.items
    (c.unfolded.ensures c.args.cell.0 c.requires)
    (subst (λ (layout : Layout). PaintBoxIs layout c.box_of-own.result) c.open.ensures.own own)
    c.in_ok-elements.ensures.hold)
