use Rattle.element_tree.proofs.Common.{◌+◌, ◌-◌, length, reverse, IsUnderWay, uses_left}
use Rattle.element_tree.proofs.walks.walk.Given as goal

abbrev pub invariant-loop-cell : goal.invariant-loop-cell
invariant-loop-cell l = IsUnderWay l.graph l.root l.marks.items l.next.items (reverse l.open.items) (reverse l.order.items)

abbrev pub decreases-loop-cell : goal.decreases-loop-cell
decreases-loop-cell l = uses_left l.graph l.next.items + (length l.graph - length l.order.items)
