use Rattle.cell_paint.proofs.Common.{subst, Paint, layout_of, KeepsTypes}
use Rattle.cell_paint.proofs.paints.CellPaint.change.Goals as goal

pub returns-in_err-check_areas-clause-sound : goal.returns-in_err-check_areas-clause-sound
returns-in_err-check_areas-clause-sound c =
    subst (λ (paint : Paint). KeepsTypes paint.kinds (layout_of paint)) c.self.view_is c.self.invariant.sound.types

pub returns-clause-sound : goal.returns-clause-sound
returns-clause-sound c =
    subst (λ (paint : Paint). KeepsTypes paint.kinds (layout_of paint)) c.self.view_is c.self.invariant.sound.types
