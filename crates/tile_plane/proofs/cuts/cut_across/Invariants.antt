-- Nothing else has been cut, and the tiles of the row begin with it as far as the walk has come.
use Rattle.tile_plane.proofs.Common.{extent}
use Rattle.tile_plane.proofs.RowCuts.{IsSamePlane, AreCutting, IsRowWalk}
use Rattle.tile_plane.proofs.cuts.cut_across.Given as goal

abbrev pub invariant-row : goal.invariant-row
invariant-row l = record {
  plane : IsSamePlane l.initial.store l.store;
  cutting : AreCutting l.area l.y l.initial.store l.store;
  walk : IsRowWalk l.store l.y l.area.xlo l.area.xhi l.x l.id;
}

abbrev pub decreases-row : goal.decreases-row
decreases-row l = extent l.x l.area.xhi
