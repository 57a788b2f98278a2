use Rattle.steady_state.specs.Levels.{IsWritten}
use Rattle.steady_state.proofs.stepping.write_levels.Given as goal

abbrev pub invariant-loop-node : goal.invariant-loop-node
invariant-loop-node l = IsWritten l.one l.zero l.order l.node-index l.fn.next l.next
