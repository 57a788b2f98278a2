use Rattle.offences.proofs.Common.{◌≡◌, take, all_sets}
use Rattle.offences.proofs.part_sets.all_sets.Given as goal

abbrev pub invariant-loop-sum : goal.invariant-loop-sum
invariant-loop-sum l = l.all ≡ all_sets (take l.sum-index l.sums)
