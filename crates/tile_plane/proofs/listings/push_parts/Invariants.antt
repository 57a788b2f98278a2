-- The parts of the tiles before the index are added.
use Rattle.tile_plane.proofs.Common.{◌≡◌, ◌++◌, map, take, part_in}
use Rattle.tile_plane.proofs.listings.push_parts.Given as goal

abbrev pub invariant-loop-id : goal.invariant-loop-id
invariant-loop-id l = l.parts.items ≡ l.initial.parts.items ++ map (part_in l.store l.area) (take l.id-index l.id-items)
