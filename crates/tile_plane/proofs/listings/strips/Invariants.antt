-- The tiles of the value that are passed are found.
use Rattle.tile_plane.proofs.Common.{◌-◌, ◌^◌}
use Rattle.tile_plane.proofs.WholeLaws.{AreTilesOf, passed_numbers}
use Rattle.tile_plane.proofs.listings.strips.Given as goal

abbrev pub invariant-loop-id : goal.invariant-loop-id
invariant-loop-id l = AreTilesOf l.store l.value l.last l.found.items

abbrev pub decreases-loop-id : goal.decreases-loop-id
decreases-loop-id l = 2 ^ 32 - passed_numbers l.last
