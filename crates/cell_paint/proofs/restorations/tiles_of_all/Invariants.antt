-- The tiles of the planes below the index are taken.
use Rattle.cell_paint.proofs.Common.{layout_on}
use Rattle.cell_paint.proofs.PieceLaws.{AreTakenBelow}
use Rattle.cell_paint.proofs.restorations.tiles_of_all.Given as goal

abbrev pub invariant-loop-plane : goal.invariant-loop-plane
invariant-loop-plane l = AreTakenBelow (layout_on l.planes) l.area l.plane l.taken.items
