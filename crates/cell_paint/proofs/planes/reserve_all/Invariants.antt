-- The planes below the index have taken what their pieces need.
use Rattle.cell_paint.proofs.PlaneLaws.{IsReservedUpTo}
use Rattle.cell_paint.proofs.planes.reserve_all.Given as goal

abbrev pub invariant-loop-index : goal.invariant-loop-index
invariant-loop-index l = IsReservedUpTo l.index l.initial.planes l.planes l.changes
