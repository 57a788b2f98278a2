-- No piece so far passes the value.
use Rattle.run_plane.proofs.Common.{◌≤◌, take, All, Piece}
use Rattle.run_plane.proofs.listings.greatest_value.Given as goal

abbrev pub invariant-loop-piece : goal.invariant-loop-piece
invariant-loop-piece l = All (λ (piece : Piece). piece.value ≤ l.greatest) (take l.piece-index l.pieces)
