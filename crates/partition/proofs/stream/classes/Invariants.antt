use Rattle.std.proofs.Common.{◌≡◌, length, take}
use Rattle.partition.specs.Divides.{Divides, IsPair}
use Rattle.partition.proofs.stream.classes.Given as goal

-- the pairs so far are joined
abbrev pub invariant-loop-a : goal.invariant-loop-a
invariant-loop-a l = record {
  long : length l.partition ≡ l.count;
  divides : Divides l.partition (IsPair (take l.a-index l.pairs));
}
