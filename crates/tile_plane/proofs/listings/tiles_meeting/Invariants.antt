-- The followers of the tiles before the index are listed.
use Rattle.tile_plane.proofs.Common.{◌-◌, ◌^◌}
use Rattle.tile_plane.proofs.QueueLaws.{IsQueue}
use Rattle.tile_plane.proofs.listings.tiles_meeting.Given as goal

abbrev pub invariant-loop-index : goal.invariant-loop-index
invariant-loop-index l = IsQueue l.store l.area l.found.items l.index

abbrev pub decreases-loop-index : goal.decreases-loop-index
decreases-loop-index l = 2 ^ 64 - l.index
