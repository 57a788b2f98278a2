use Rattle.fault_replay.proofs.Common.{◌≡◌, take, changed, taken_from}
use Rattle.fault_replay.proofs.changing.take_states.Given as goal

abbrev pub invariant-loop-node : goal.invariant-loop-node
invariant-loop-node l = l.states ≡ changed (taken_from l.next (take l.node-index l.nodes)) l.initial.states
