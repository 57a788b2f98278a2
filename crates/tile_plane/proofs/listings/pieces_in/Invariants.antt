-- The areas before the index have their pieces, and the hints are tiles.
use Rattle.tile_plane.proofs.Common.{take, All, value_at, IsTaken}
use Rattle.tile_plane.proofs.PartLaws.{ArePiecesSoFar}
use Rattle.tile_plane.proofs.listings.pieces_in.Given as goal

abbrev pub invariant-loop-area : goal.invariant-loop-area
invariant-loop-area l = IsTaken l.store l.first × All (IsTaken l.store) l.hints.items
    × ArePiecesSoFar (value_at l.store) (take l.area-index l.areas) l.pieces.items
