use Rattle.tree_merges.proofs.Common.{◌≡◌, ◌+◌, length, map, take, Divides, IsPair, region_position, pairs_from}
use Rattle.tree_merges.proofs.JoinLaws.{Pair}
use Rattle.tree_merges.proofs.marking.marks_of.Given as goal

abbrev pub invariant-loop-index : goal.invariant-loop-index
invariant-loop-index l = record {
  long : length l.classes ≡ length l.members.names.items + l.regions.count;
  divides : Divides l.classes
      (IsPair (map {B = Pair} (λ pair. (pair.0, region_position (length l.members.names.items) l.regions.tiles pair.1))
      (pairs_from l.members.numbers.items 0 (take l.index l.pieces))));
}
