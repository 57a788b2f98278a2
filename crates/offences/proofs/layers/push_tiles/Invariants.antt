use Rattle.offences.proofs.Common.{◌≡◌, ◌++◌, map, take, layer_tile}
use Rattle.offences.proofs.layers.push_tiles.Given as goal

abbrev pub invariant-loop-area : goal.invariant-loop-area
invariant-loop-area l = l.gathered.items ≡ l.initial.gathered.items ++ map (layer_tile l.raw l.part) (take l.area-index l.tiles)
