use Rattle.tree_merges.proofs.Common.{◌≡◌, map, length, take, AddsPairs}
use Rattle.std.proofs.Common.{slice_index}
use Rattle.tree_merges.proofs.marking.join_members.Given as goal

abbrev pub invariant-loop-tile : goal.invariant-loop-tile
invariant-loop-tile l = record {
  len : length l.classes ≡ length l.initial.classes;
  joined : AddsPairs l.initial.classes l.classes (map (λ tile. (slice_index l.numbers tile, l.region)) (take l.tile-index l.tiles));
}
