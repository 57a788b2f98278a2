use Rattle.hier_merge.proofs.Common.{◌≡◌, ◌++◌, length, map, into_iter_items, into_iter_len, plane_stack}
use Rattle.hier_merge.proofs.meetings.add_stacks.Given as goal

-- the pieces so far are added, and the others are still to come
abbrev pub invariant-loop-stack : goal.invariant-loop-stack
invariant-loop-stack l = record {
  rest : l.yielded ++ into_iter_items l.stack-iterator ≡ l.fn.found.items;
  count : into_iter_len l.stack-iterator ≡ length (into_iter_items l.stack-iterator);
  added : l.stacks.items ≡ l.fn.stacks.items ++ map (plane_stack l.plane) l.yielded;
}
