use Rattle.offences.proofs.Common.{map, take, ArePartTiles}
use Rattle.offences.proofs.layers.part_tiles.Given as goal

abbrev pub invariant-loop-number : goal.invariant-loop-number
invariant-loop-number g l = ArePartTiles l.raw l.plane l.area (map g.Y.Layers.kind (take l.number l.parts)) l.gathered.items
