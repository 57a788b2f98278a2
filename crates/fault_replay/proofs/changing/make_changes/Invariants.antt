use Rattle.fault_replay.proofs.Common.{◌≡◌, take, changed}
use Rattle.fault_replay.proofs.changing.make_changes.Given as goal

abbrev pub invariant-loop-node : goal.invariant-loop-node
invariant-loop-node l = l.states ≡ changed (take l.node-index l.changes) l.initial.states
