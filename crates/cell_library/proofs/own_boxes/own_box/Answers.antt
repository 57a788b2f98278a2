use Rattle.cell_library.proofs.Common.{List, take, subst, sym, ◌+◌, ◌∷◌, ◌++◌, [], ◌≡◌, ap, ◌∙◌, take_more, Label, layout_of, IsOwnBox}
use Rattle.cell_library.proofs.BoxLaws.{paint_box, labelled_box}
use Rattle.cell_library.proofs.own_boxes.own_box.Goals as goal

pub loop-label-init : goal.loop-label-init
loop-label-init c = paint_box (layout_of c.args.paint.now) c.box_of-found.result c.box_of-found.ensures.none c.box_of-found.ensures.smallest

pub loop-label-preserved : goal.loop-label-preserved
loop-label-preserved c =
    let own = layout_of c.args.paint.now in
    let labels : List Label = c.args.labels.now in
    let so_far : List Label = take c.loop-label.label-index labels in
    let label : Label = c.label-item.result in
    let more : take (c.loop-label.label-index + 1) labels ≡ so_far ++ label ∷ [] =
    take_more labels c.loop-label.label-index label c.loop-label-test.true ∙ ap (λ (l : Label). so_far ++ l ∷ []) (sym c.label-item.is) in
    subst (λ (ls : List Label). IsOwnBox own ls c.box_with.result) (sym more)
    (subst (IsOwnBox own (so_far ++ label ∷ [])) (sym c.box_with.ensures) (labelled_box own so_far c.loop-label.found label c.loop-label.invariant))
