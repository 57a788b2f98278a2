use Rattle.fet_regions.proofs.LowestLaws.{IsWalked}
use Rattle.fet_regions.proofs.lowest.lowest_tiles.Given as goal

abbrev pub invariant-loop-corner : goal.invariant-loop-corner
invariant-loop-corner l = IsWalked l.tiles l.labels l.count l.corner-items l.corner-index l.seen.items l.lowest.items
