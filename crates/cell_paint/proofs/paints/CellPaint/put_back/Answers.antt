use Rattle.cell_paint.proofs.Common.{◌≡◌, ◌∙◌, List, length, sym, ap, subst, Paint, PlaneValue, layout_of, layout_on, IsSoundPaint, AreCellPlanes}
use Rattle.cell_paint.proofs.Common.{with_pieces}
use Rattle.cell_paint.proofs.PaintLaws.{whole_same}
use Rattle.cell_paint.proofs.PieceLaws.{put_whole}
use Rattle.cell_paint.proofs.PlaneLaws.{written_back}
use Rattle.cell_paint.proofs.paints.CellPaint.put_back.Goals as goal

pub invariant_of-self : goal.invariant_of-self
invariant_of-self c =
    let kinds = c.self.inside.kinds in
    let old = c.self.inside.planes.items in
    let new = c.put_back_on.new.planes in
    let value = c.as_mut_slice.ensures.value in
    let long : length new ≡ length old = c.put_back_on.ensures.so_many ∙ ap length value in
    subst (AreCellPlanes kinds) (sym (written_back old new c.self.inside.planes.len c.self.inside.planes.ok.0 long))
    (whole_same kinds old new long (λ place. c.in_err-put_back_on.ensures.refused place ∙ ap (λ (planes : List PlaneValue). layout_on planes place) value)
    c.self.invariant)

pub invariant_of-self-2 : goal.invariant_of-self-2
invariant_of-self-2 c =
    let kinds = c.self.inside.kinds in
    let old = c.self.inside.planes.items in
    let new = c.put_back_on.new.planes in
    let area = c.args.area in
    let pieces = c.args.pieces.now in
    let value = c.as_mut_slice.ensures.value in
    let long : length new ≡ length old = c.put_back_on.ensures.so_many ∙ ap length value in
    let sound : IsSoundPaint kinds (with_pieces area pieces (layout_on old)) =
    subst (λ (paint : Paint). IsSoundPaint paint.kinds (with_pieces area pieces (layout_of paint))) (sym c.self.view_is) c.requires.sound in
    subst (AreCellPlanes kinds) (sym (written_back old new c.self.inside.planes.len c.self.inside.planes.ok.0 long))
    (put_whole kinds area pieces old new long sound
    (λ place. c.in_ok-put_back_on.ensures.put place ∙ ap (λ (planes : List PlaneValue). with_pieces area pieces (layout_on planes) place) value)
    c.self.invariant)
