use Rattle.geo_strips.proofs.Common.{◌≡◌, ◌++◌, drop, joined, joined_from}
use Rattle.geo_strips.proofs.bars.join.Given as goal

abbrev pub invariant-loop-next : goal.invariant-loop-next
invariant-loop-next l = l.found.items ++ joined_from l.bar (drop l.next-index l.next-items) ≡ joined l.bars
