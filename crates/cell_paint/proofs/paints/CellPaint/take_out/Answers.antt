use Rattle.cell_paint.proofs.Common.{◌≡◌, ◌∙◌, List, length, ap, subst, Paint, PlaneValue, layout_on, CanStandIn}
use Rattle.cell_paint.proofs.PieceLaws.{taken_can_stand}
use Rattle.cell_paint.proofs.PlaneLaws.{space_past}
use Rattle.cell_paint.proofs.paints.CellPaint.take_out.Goals as goal

pub returns-clause-pieces : goal.returns-clause-pieces
returns-clause-pieces c =
    let read = c.as_slice.result.now in
    let taken = c.in_ok-taken.taken.items in
    let same : read ≡ c.args.self.now.planes = c.as_slice.ensures.value ∙ ap (λ (p : Paint). p.planes) c.self.view_is in
    subst (λ (planes : List PlaneValue). CanStandIn c.args.area (length planes) taken) same
    (taken_can_stand (layout_on read) c.args.area taken c.in_ok-taken.ensures.taken (length read)
    (λ place past. space_past read place.plane place.square past))
