-- Sides in the order of nodes, and sums in any order.
use Rattle.flatten.proofs.Common.{ℕ, ◌≤◌, false, List, get_or, inl, inr, Side, AreByNode}
use Rattle.std.specs.List.Sorted.{IsSortedByKey}
use Rattle.std.specs.Ordering.{nat_cmp}
use Rattle.std.proofs.lemmas.Cmp.{nat_cmp_total}
use Rattle.std.proofs.lemmas.Map.Keys.{ge_from_not_lt}
use Rattle.finite_sets.proofs.Orders.{IsSortedByKey-pairs}

-- sides that a sort by nodes has put in order
pub sorted_by_node : (sides : List Side) → IsSortedByKey (λ side. side.node) nat_cmp sides → AreByNode sides
sorted_by_node sides sorted i j d less inside =
    ge_from_not_lt (get_or sides j d).node (get_or sides i d).node
    (IsSortedByKey-pairs (λ side. side.node) nat_cmp nat_cmp_total sides sorted i j d less inside)
