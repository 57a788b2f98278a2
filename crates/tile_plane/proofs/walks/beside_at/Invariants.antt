use Rattle.tile_plane.proofs.Common.{tile_at, IsTaken}
use Rattle.tile_plane.proofs.WalkLaws.{IsWalk, way_to}
use Rattle.tile_plane.proofs.walks.beside_at.Given as goal

abbrev pub invariant-along : goal.invariant-along
invariant-along l = record {
  walk : IsWalk l.side l.store l.id l.next l.at;
  other : IsTaken l.store l.other;
}

abbrev pub decreases-along : goal.decreases-along
decreases-along l = way_to l.side (tile_at l.store l.next).area l.at
