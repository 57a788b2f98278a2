use Rattle.cell_tree.proofs.Common.{◌≡◌, ◌++◌, ◌-◌, ◌≤◌, length, replicate, vec_capacity}
use Rattle.cell_tree.proofs.size_books.fill.Given as goal

abbrev pub invariant-loop : goal.invariant-loop
invariant-loop g l = record {
  filled : l.list.items ≡ l.initial.list.items ++ replicate (length l.list.items - length l.initial.list.items) l.value;
  room : vec_capacity l.initial.list ≤ vec_capacity l.list;
  count : length l.list.items ≡ l.counter;
  low : l.counter ≤ l.count;
}
