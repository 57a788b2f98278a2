-- The band is laid as far as its tile reaches.
use Rattle.tile_plane.proofs.Common.{extent, tile_at}
use Rattle.tile_plane.proofs.FillLaws.{IsFilling}
use Rattle.tile_plane.proofs.pieces.fill_band.Given as goal

abbrev pub invariant-row : goal.invariant-row
invariant-row l = IsFilling l.band l.id l.fn.store l.store

abbrev pub decreases-row : goal.decreases-row
decreases-row l = extent (tile_at l.store l.id).area.xhi l.band.area.xhi
