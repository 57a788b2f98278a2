use Rattle.element_tree.proofs.Common.{◌≡◌, map, take, greatest, value_at}
use Rattle.element_tree.proofs.sizes.greatest_of.Given as goal

abbrev pub invariant-loop-child : goal.invariant-loop-child
invariant-loop-child l = l.greatest ≡ greatest (map (value_at l.values) (take l.child-index l.children))
