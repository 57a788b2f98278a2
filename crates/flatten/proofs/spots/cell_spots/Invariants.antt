use Rattle.flatten.proofs.Common.{◌≡◌, ℕ, length, true, Some, slice_get, CellExt, CellSpots, AreSpotsIn}
use Rattle.flatten.proofs.spots.cell_spots.Given as goal

abbrev pub invariant-loop-cell : goal.invariant-loop-cell
invariant-loop-cell l = record {
  long : length l.spots.items ≡ l.cell;
  each : (cell : ℕ) (ext : CellExt) (one : CellSpots) → slice_get l.spots.items cell ≡ Some one → slice_get l.exts cell ≡ Some ext
      → slice_get l.reached.items cell ≡ Some true → AreSpotsIn l.names cell ext one;
}
