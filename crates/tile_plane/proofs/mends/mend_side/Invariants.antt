use Rattle.tile_plane.proofs.Common.{along, end_of}
use Rattle.tile_plane.proofs.MendLaws.{IsMending, way_left}
use Rattle.tile_plane.proofs.mends.mend_side.Given as goal

abbrev pub invariant-along : goal.invariant-along
invariant-along l = IsMending l.side l.initial.store l.store l.area l.id l.next l.at

abbrev pub decreases-along : goal.decreases-along
decreases-along l = way_left l.side l.at (end_of (along l.side) l.area)
