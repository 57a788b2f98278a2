use Rattle.flood_nodes.proofs.Common.{◌≡◌, ◌++◌, map, take}
use Rattle.flood_nodes.specs.steps.Gathered.{tile_on}
use Rattle.flood_nodes.proofs.gathering.push_tiles.Given as goal

abbrev pub invariant-loop-area : goal.invariant-loop-area
invariant-loop-area l = l.tiles.items ≡ l.initial.tiles.items ++ map (tile_on l.plane) (take l.area-index l.found)
