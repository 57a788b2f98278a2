use Rattle.offences.proofs.Common.{◌≡◌, map, take, kind_of}
use Rattle.offences.proofs.stacks.kinds_of.Given as goal

abbrev pub invariant-loop-sum : goal.invariant-loop-sum
invariant-loop-sum l = l.kinds.items ≡ map (kind_of l.tech l.plane) (take l.sum-index l.sums)
