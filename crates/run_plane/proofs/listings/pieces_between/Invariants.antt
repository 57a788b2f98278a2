-- The pieces have what the rows before the index have.
use Rattle.run_plane.proofs.PieceLaws.{AreCovered}
use Rattle.run_plane.proofs.listings.pieces_between.Given as goal

abbrev pub invariant-loop-index : goal.invariant-loop-index
invariant-loop-index l = AreCovered l.rows l.low l.high l.index l.pieces.items
