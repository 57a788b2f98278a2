use Rattle.hier_merge.proofs.Common.{ℕ, ◌≤◌, ◌<◌, length, take, All, slice_index_or, HasTiles, AreTilePieces, IsSeam, tiles_on}
use Rattle.hier_merge.proofs.plane_pieces.plane_pieces.Given as goal

-- the pieces so far are those of the tiles before the last seam, which cover them, and the next seams come no sooner
abbrev pub invariant-loop-seam : goal.invariant-loop-seam
invariant-loop-seam l = record {
  seam : IsSeam l.tiles l.start;
  later : (k : ℕ) → l.seam-index ≤ k → k < length l.seams → l.start ≤ slice_index_or l.seams k 0;
  pieces : AreTilePieces l.tech l.plane (tiles_on l.tech l.plane (take l.start l.tiles)) l.stacks.items;
  have : All (HasTiles l.tiles 0 l.start l.plane) l.stacks.items;
}
