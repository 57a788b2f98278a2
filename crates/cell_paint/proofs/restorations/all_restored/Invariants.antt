-- The planes below the index have what comes to stand on them.
use Rattle.cell_paint.proofs.Common.{◌≡◌, length, Layout, with_pieces, AreAllChanges}
use Rattle.cell_paint.proofs.restorations.all_restored.Given as goal

abbrev pub invariant-loop-plane : goal.invariant-loop-plane
invariant-loop-plane l = record {
  long : length l.changes.items ≡ l.plane;
  each : (layout : Layout) → AreAllChanges layout (with_pieces l.area l.pieces layout) l.changes.items;
}
