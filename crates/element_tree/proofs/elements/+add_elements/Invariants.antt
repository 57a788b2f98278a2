use Rattle.element_tree.proofs.Common.{◌≡◌, ◌-◌}
use Rattle.element_tree.proofs.Growth.{added}
use Rattle.element_tree.proofs.elements.+add_elements.Given as goal

abbrev pub decreases-add_elements : goal.decreases-add_elements
decreases-add_elements l = l.levels

abbrev pub invariant-loop-at : goal.invariant-loop-at
invariant-loop-at l = l.elements.items ≡ added l.exts l.branches (l.levels - 1) l.number l.element l.at l.fn.elements.items
