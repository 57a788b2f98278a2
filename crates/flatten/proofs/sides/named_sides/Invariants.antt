use Rattle.flatten.proofs.Common.{◌≡◌, map, take, named_side}
use Rattle.flatten.proofs.sides.named_sides.Given as goal

abbrev pub invariant-loop-side : goal.invariant-loop-side
invariant-loop-side l = l.named.items ≡ map (named_side l.nodes) (take l.side-index l.sides)
