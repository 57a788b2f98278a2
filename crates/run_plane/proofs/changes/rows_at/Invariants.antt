-- The rows are those at the heights so far.
use Rattle.run_plane.proofs.Common.{[], take, AreRowsFor}
use Rattle.run_plane.proofs.changes.rows_at.Given as goal

abbrev pub invariant-loop-ylo : goal.invariant-loop-ylo
invariant-loop-ylo l = AreRowsFor l.rows [] (take l.ylo-index l.heights) l.found.items
