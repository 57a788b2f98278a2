-- Nothing else has been cut, and the tiles of the column begin with it as far as the walk has come.
use Rattle.tile_plane.proofs.Common.{extent}
use Rattle.tile_plane.proofs.RowCuts.{IsSamePlane}
use Rattle.tile_plane.proofs.ColumnCuts.{AreCuttingAlong, IsColumnWalk}
use Rattle.tile_plane.proofs.cuts.cut_along.Given as goal

abbrev pub invariant-column : goal.invariant-column
invariant-column l = record {
  plane : IsSamePlane l.initial.store l.store;
  cutting : AreCuttingAlong l.area l.x l.initial.store l.store;
  walk : IsColumnWalk l.store l.x l.area.ylo l.area.yhi l.y l.id;
}

abbrev pub decreases-column : goal.decreases-column
decreases-column l = extent l.y l.area.yhi
