use Rattle.offences.proofs.Common.{◌≡◌, ◌++◌, length, StandForAll}
use Rattle.std.specs.Vec.Iter.{into_iter_items, into_iter_len}
use Rattle.offences.proofs.stacks.typed_stacks_of.Given as goal

-- what the stacks so far make is there, and the others are still to come
abbrev pub invariant-loop-stack : goal.invariant-loop-stack
invariant-loop-stack l = record {
  rest : l.yielded ++ into_iter_items l.stack-iterator ≡ l.fn.stacks.items;
  count : into_iter_len l.stack-iterator ≡ length (into_iter_items l.stack-iterator);
  stand : StandForAll l.tech l.plane l.tiles l.yielded l.typed_stacks.items;
}
