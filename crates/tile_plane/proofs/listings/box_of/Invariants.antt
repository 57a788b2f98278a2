-- The rectangle is that of the tiles that are passed.
use Rattle.tile_plane.proofs.Common.{◌-◌, ◌^◌}
use Rattle.tile_plane.proofs.WholeLaws.{BoxSoFar, passed_numbers}
use Rattle.tile_plane.proofs.listings.box_of.Given as goal

abbrev pub invariant-loop-id : goal.invariant-loop-id
invariant-loop-id l = BoxSoFar l.store l.last l.found

abbrev pub decreases-loop-id : goal.decreases-loop-id
decreases-loop-id l = 2 ^ 32 - passed_numbers l.last
