use Rattle.flatten.proofs.Common.{◌≡◌, ℕ, ◌<◌, length, true, Some, slice_get, IsReached, cell_at}
use Rattle.flatten.proofs.reached.reached_cells.Given as goal

abbrev pub invariant-loop-element : goal.invariant-loop-element
invariant-loop-element l = record {
  long : length l.reached.items ≡ l.count;
  sound : (cell : ℕ) → slice_get l.reached.items cell ≡ Some true → IsReached l.names cell;
  whole : (number : ℕ) → number < l.element-index → slice_get l.reached.items (cell_at l.names number) ≡ Some true;
}
