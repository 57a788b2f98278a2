use Rattle.element_tree.proofs.Common.{◌≡◌, length}
use Rattle.element_tree.proofs.branches.empty_lists.Given as goal

abbrev pub invariant-loop : goal.invariant-loop
invariant-loop l = length l.lists.items ≡ l.counter
