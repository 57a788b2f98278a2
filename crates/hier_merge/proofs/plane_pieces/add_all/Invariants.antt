use Rattle.hier_merge.proofs.Common.{◌≡◌, ◌++◌, length, map, into_iter_items, into_iter_len, renumbered}
use Rattle.hier_merge.proofs.plane_pieces.add_all.Given as goal

-- the pieces so far are added with numbers, and the others are still to come
abbrev pub invariant-loop-stack : goal.invariant-loop-stack
invariant-loop-stack l = record {
  rest : l.yielded ++ into_iter_items l.stack-iterator ≡ l.fn.found.items;
  count : into_iter_len l.stack-iterator ≡ length (into_iter_items l.stack-iterator);
  added : l.stacks.items ≡ l.fn.stacks.items ++ map (renumbered l.numbers) l.yielded;
}
