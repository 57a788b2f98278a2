-- The walk has a tile of the row, and the tiles of the row as far as it reaches go on up to the top so far.
use Rattle.tile_plane.proofs.Common.{pos, ◌+ℤ◌, extent, tile_at}
use Rattle.tile_plane.proofs.TopLaws.{IsTopWalk}
use Rattle.tile_plane.proofs.pieces.band_top.Given as goal

abbrev pub invariant-row : goal.invariant-row
invariant-row l = IsTopWalk l.store l.area l.id l.top

abbrev pub decreases-row : goal.decreases-row
decreases-row l = extent (tile_at l.store l.id).area.xhi (l.area.xhi +ℤ pos 1)
