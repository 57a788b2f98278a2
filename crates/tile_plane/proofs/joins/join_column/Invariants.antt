-- The tiles have only grown, and the column is tall below the tile at which the walk is.
use Rattle.tile_plane.proofs.Common.{pos, ◌-ℤ◌, extent, tile_at, AreJoining}
use Rattle.tile_plane.proofs.KeepLaws.{IsTallBelow}
use Rattle.tile_plane.proofs.joins.join_column.Given as goal

abbrev pub invariant-column : goal.invariant-column
invariant-column l = record {
  joining : AreJoining l.initial.store l.store;
  below : IsTallBelow l.store l.x (l.ylo -ℤ pos 1) l.id;
}

abbrev pub decreases-column : goal.decreases-column
decreases-column l = extent (tile_at l.store l.id).area.yhi l.yhi
