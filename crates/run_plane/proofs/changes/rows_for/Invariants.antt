-- In the rows the pieces so far are set.
use Rattle.run_plane.proofs.Common.{take, AreRowsFor}
use Rattle.run_plane.proofs.changes.rows_for.Given as goal

abbrev pub invariant-loop-piece : goal.invariant-loop-piece
invariant-loop-piece l = AreRowsFor l.rows (take l.piece-index l.pieces) l.heights l.found.items
