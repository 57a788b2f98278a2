use Rattle.use_orders.proofs.Common.{◌≡◌, ◌≤◌, ◌-◌, ℕ, [], length, lists_of, used_by}
use Rattle.std.proofs.Common.{vec_len}
use Rattle.use_orders.proofs.own_descendants.empty_lists.Given as goal

abbrev pub invariant-lists : goal.invariant-lists
invariant-lists l = record {
  few : length l.lists.items ≤ l.count;
  empty : (cell : ℕ) → used_by (lists_of l.lists.items) cell ≡ [];
}

abbrev pub decreases-lists : goal.decreases-lists
decreases-lists l = l.count - vec_len l.lists
