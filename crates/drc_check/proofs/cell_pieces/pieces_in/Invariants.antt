use Rattle.drc_check.proofs.Common.{◌≡◌, ◌≤◌, take, IsInUnion, seen, AreListedPiecesIn}
use Rattle.cell_library.specs.LayoutTrees.{tree_at}
use Rattle.drc_check.proofs.cell_pieces.pieces_in.Given as goal

-- the pieces so far are those of the bands so far, by visits of the same library
abbrev pub invariant-loop-band : goal.invariant-loop-band
invariant-loop-band g l = record {
  pieces : AreListedPiecesIn l.library.tech (tree_at (seen l.library) l.cell.0) l.rules (IsInUnion (take l.band-index l.band-items)) l.hull
      l.pieces.items;
  library : l.visitor ≡ l.library;
  steps : l.fn.steps ≤ l.steps;
}
