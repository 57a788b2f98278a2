-- The tiles of the side up to the last one are listed.
use Rattle.tile_plane.proofs.Common.{extent, tile_at}
use Rattle.tile_plane.proofs.FollowerLaws.{IsSideUpTo}
use Rattle.tile_plane.proofs.listings.left_side.Given as goal

abbrev pub invariant-upward : goal.invariant-upward
invariant-upward l = IsSideUpTo l.store l.area l.side.items l.id

abbrev pub decreases-upward : goal.decreases-upward
decreases-upward l = extent (tile_at l.store l.id).area.yhi l.area.yhi
