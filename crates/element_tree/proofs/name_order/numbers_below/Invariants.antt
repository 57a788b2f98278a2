use Rattle.element_tree.proofs.Common.{◌≡◌, range_with_len}
use Rattle.element_tree.proofs.name_order.numbers_below.Given as goal

abbrev pub invariant-loop-number : goal.invariant-loop-number
invariant-loop-number l = l.numbers.items ≡ range_with_len 0 l.number
