-- The followers from y on are added, and the next one stands below.
use Rattle.tile_plane.proofs.Common.{extent, low_row}
use Rattle.tile_plane.proofs.FollowerLaws.{AddsFrom}
use Rattle.tile_plane.proofs.listings.push_followers.Given as goal

abbrev pub invariant-loop-y : goal.invariant-loop-y
invariant-loop-y l = AddsFrom l.store l.area l.id l.y l.next l.initial.found.items l.found.items

abbrev pub decreases-loop-y : goal.decreases-loop-y
decreases-loop-y l = extent (low_row l.store l.area l.id) l.y
