use Rattle.sim_records.proofs.Common.{◌≡◌, map, take, cap_of}
use Rattle.sim_records.proofs.caps.caps_of.Given as goal

abbrev pub invariant-loop-node : goal.invariant-loop-node
invariant-loop-node l = l.caps.items ≡ map cap_of (take l.node-index l.nodes)
