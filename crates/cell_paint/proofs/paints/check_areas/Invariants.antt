-- Paint may go over the areas below the index.
use Rattle.cell_paint.proofs.Common.{◌≡◌, take, None, first_area_fault}
use Rattle.cell_paint.proofs.paints.check_areas.Given as goal

abbrev pub invariant-loop-area : goal.invariant-loop-area
invariant-loop-area l = first_area_fault (take l.area-index l.areas) ≡ None
