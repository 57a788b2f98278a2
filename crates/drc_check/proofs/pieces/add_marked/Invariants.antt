use Rattle.drc_check.proofs.Common.{◌≡◌, ◌++◌, take, filter_map, stack_piece}
use Rattle.drc_check.proofs.pieces.add_marked.Given as goal

abbrev pub invariant-loop-stack : goal.invariant-loop-stack
invariant-loop-stack l = l.pieces.items ≡ l.fn.pieces.items ++ filter_map (stack_piece l.tech l.marks l.plane l.sets) (take l.stack-index l.stacks)
