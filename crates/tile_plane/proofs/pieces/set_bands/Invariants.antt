-- The bands of the piece below what is left are set, and the tile of the lowest square of that is at hand.
use Rattle.tile_plane.proofs.Common.{extent}
use Rattle.tile_plane.proofs.PieceLaws.{IsBandWalk}
use Rattle.tile_plane.proofs.pieces.set_bands.Given as goal

abbrev pub invariant-bands : goal.invariant-bands
invariant-bands l = IsBandWalk l.piece l.rest l.id l.fn.store l.store

abbrev pub decreases-bands : goal.decreases-bands
decreases-bands l = extent l.rest.area.ylo l.piece.area.yhi
