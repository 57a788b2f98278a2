-- There are so many planes, and all is space.
use Rattle.cell_paint.proofs.Common.{◌≡◌, length, Place, layout_on}
use Rattle.cell_paint.proofs.paints.empty_planes.Given as goal

abbrev pub invariant-loop : goal.invariant-loop
invariant-loop l = record {
  long : length l.planes.items ≡ l.counter;
  empty : (place : Place) → layout_on l.planes.items place ≡ 0;
}
