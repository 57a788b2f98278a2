use Rattle.cell_library.proofs.Common.{◌≤◌, ◌++◌, List, ℕ, length, ap, arith, Rect, UseBody, hulls_below, size_at, seen, view_at}
use Rattle.cell_library.proofs.BoxesBelow.{boxes_all, boxes_on}
use Rattle.cell_library.proofs.element_boxes.boxes_of.Goals as goal

pub loop-k-init : goal.loop-k-init
loop-k-init c =
    ap (λ (boxes : List Rect). boxes ++ hulls_below (size_at c.args.library.now.tree.sizes) (view_at (seen c.args.library.now) c.args.cell.0).uses)
    c.in_ok-boxes.ensures.items

pub loop-k-preserved : goal.loop-k-preserved
loop-k-preserved c =
    boxes_on (size_at c.args.library.now.tree.sizes) (view_at (seen c.args.library.now) c.args.cell.0).uses c.loop-k.k c.body_at.ensures.body.id
    c.body_at.result.now c.loop-k.boxes.items c.push_boxes.new.boxes.items _ c.body_at.ensures.body.stands c.loop-k.invariant
    c.in_ok-push_boxes.ensures

pub returns : goal.returns
returns c =
    let uses : List (List ℕ × UseBody) = (view_at (seen c.args.library.now) c.args.cell.0).uses in
    let past : length uses ≤ c.loop-k.k = omega (arith, c.use_count-k-end.ensures, c.loop-k-test.false) in
    boxes_all (size_at c.args.library.now.tree.sizes) uses c.loop-k.k c.loop-k.boxes.items _ past c.loop-k.invariant
