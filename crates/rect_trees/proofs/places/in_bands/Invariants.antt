use Rattle.rect_trees.proofs.Common.{◌≡◌, map, take, position_of}
use Rattle.rect_trees.proofs.places.in_bands.Given as goal

abbrev pub invariant-loop-rank : goal.invariant-loop-rank
invariant-loop-rank l = map position_of l.places.items ≡ map position_of (take l.rank l.rising)
