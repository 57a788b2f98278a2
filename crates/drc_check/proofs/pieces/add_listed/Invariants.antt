use Rattle.drc_check.proofs.Common.{AddsMadePieces}
use Rattle.drc_check.proofs.PlanePieces.{IsListedBelow}
use Rattle.drc_check.proofs.pieces.add_listed.Given as goal

-- the pieces of the planes so far are added
abbrev pub invariant-loop-plane : goal.invariant-loop-plane
invariant-loop-plane l = AddsMadePieces l.tech l.tiles (IsListedBelow l.rules l.plane)
    l.fn.pieces.items l.pieces.items
