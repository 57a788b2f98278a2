-- The tile has squares in the row of the square, and once it does not end left of the square it never does again.
use Rattle.tile_plane.proofs.Common.{pos, ◌+ℤ◌, ◌≤ℤ◌, ◌<ℤ◌, extent, tile_at, IsTaken}
use Rattle.tile_plane.proofs.walks.find.Given as goal

abbrev pub invariant-rightward : goal.invariant-rightward
invariant-rightward l = record {
  taken : IsTaken l.store l.id;
  from : (tile_at l.store l.id).area.ylo ≤ℤ l.square.y;
  to : l.square.y <ℤ (tile_at l.store l.id).area.yhi;
}

abbrev pub decreases-rightward : goal.decreases-rightward
decreases-rightward l = extent (tile_at l.store l.id).area.xhi (l.square.x +ℤ pos 1)

abbrev pub invariant-leftward : goal.invariant-leftward
invariant-leftward l = record {
  taken : IsTaken l.store l.id;
  from : (tile_at l.store l.id).area.ylo ≤ℤ l.square.y;
  to : l.square.y <ℤ (tile_at l.store l.id).area.yhi;
  reached : l.square.x <ℤ (tile_at l.store l.id).area.xhi;
}

abbrev pub decreases-leftward : goal.decreases-leftward
decreases-leftward l = extent l.square.x (tile_at l.store l.id).area.xlo
