-- The rectangle is that of the planes before the index.
use Rattle.cell_paint.proofs.PlaneLaws.{BoxBelow}
use Rattle.cell_paint.proofs.planes.box_of.Given as goal

abbrev pub invariant-loop-plane : goal.invariant-loop-plane
invariant-loop-plane l = BoxBelow l.planes l.plane-index l.found
