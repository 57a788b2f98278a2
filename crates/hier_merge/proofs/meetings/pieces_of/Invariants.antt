use Rattle.hier_merge.proofs.Common.{ArePlanePieces}
use Rattle.hier_merge.proofs.meetings.pieces_of.Given as goal

-- the pieces so far are those of the planes so far
abbrev pub invariant-loop-plane : goal.invariant-loop-plane
invariant-loop-plane l = ArePlanePieces l.tech l.tiles l.plane l.pieces
