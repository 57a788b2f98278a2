use Rattle.cell_tree.proofs.Common.{◌+◌, ◌-◌, ◌*◌, ◌≤◌, ◌≡◌, length, vec_capacity, size_at}
use Rattle.cell_tree.proofs.AboveLaws.{AreFound}
use Rattle.cell_tree.proofs.above.+above.Given as goal

abbrev pub decreases-find_above : goal.decreases-find_above
decreases-find_above l = 2 * (64 - (size_at l.sizes.now l.cell).depth) + 1

abbrev pub decreases-add_users : goal.decreases-add_users
decreases-add_users l = 2 * (64 - (size_at l.sizes.now l.cell).depth)

abbrev pub invariant-add_users-loop-k : goal.invariant-add_users-loop-k
invariant-add_users-loop-k l =
    AreFound l.cells l.cell l.k l.initial.seen l.seen l.initial.order.items l.order.items
    × (vec_capacity l.initial.order ≤ vec_capacity l.order) × (length l.seen ≡ length l.initial.seen)
