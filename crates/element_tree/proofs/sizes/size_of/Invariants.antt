use Rattle.element_tree.proofs.Common.{◌≡◌, map, take, value_at, size_from}
use Rattle.element_tree.proofs.sizes.size_of.Given as goal

abbrev pub invariant-loop-child : goal.invariant-loop-child
invariant-loop-child l = l.size ≡ size_from (map (value_at l.sizes) (take l.child-index l.children))
