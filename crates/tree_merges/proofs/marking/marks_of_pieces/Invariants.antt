use Rattle.tree_merges.proofs.Common.{◌≡◌, ◌+◌, map, take, slice_index}
use Rattle.tree_merges.proofs.marking.marks_of_pieces.Given as goal

abbrev pub invariant-loop-tile : goal.invariant-loop-tile
invariant-loop-tile l = l.found.items ≡ map (λ tile. slice_index l.marks (l.members + tile.region)) (take l.tile-index l.tiles)
