use Rattle.run_plane.proofs.Common.{◌≡◌, List, sym, subst, Option, Some, None, MatchOption, Square, Rect, IsNear, IsBox, Row, number_at, AreRows}
use Rattle.std.specs.Prelude.{IfSome}
use Rattle.run_plane.proofs.BoxLaws.{box_near}
use Rattle.run_plane.proofs.run_planes.RunPlanePlane.box_of.Goals as goal

near_if_some : (rows : List Row) (found : Option Rect) → AreRows rows
    → MatchOption found ((square : Square) → number_at rows square ≡ 0) (IsBox (number_at rows)) → IfSome found IsNear
near_if_some rows None are is = tt
near_if_some rows (Some box) are is = box_near rows box are is

pub returns-clause-near : goal.returns-clause-near
returns-clause-near c = near_if_some c.as_slice.result.now c.box_of.result (subst AreRows (sym c.as_slice.ensures.value) c.self.invariant.now) c.box_of.ensures
