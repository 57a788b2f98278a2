-- The tile is one of the plane, and once it does not end under y it never does again.
use Rattle.tile_plane.proofs.Common.{pos, ◌+ℤ◌, ◌<ℤ◌, extent, tile_at, IsTaken}
use Rattle.tile_plane.proofs.walks.in_row.Given as goal

abbrev pub invariant-upward : goal.invariant-upward
invariant-upward l = IsTaken l.store l.id

abbrev pub decreases-upward : goal.decreases-upward
decreases-upward l = extent (tile_at l.store l.id).area.yhi (l.square.y +ℤ pos 1)

abbrev pub invariant-downward : goal.invariant-downward
invariant-downward l = record { taken : IsTaken l.store l.id; over : l.square.y <ℤ (tile_at l.store l.id).area.yhi }

abbrev pub decreases-downward : goal.decreases-downward
decreases-downward l = extent l.square.y (tile_at l.store l.id).area.ylo
