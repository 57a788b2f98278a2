use Rattle.sim_records.proofs.Common.{◌≡◌, take, flat_map, aliases_of}
use Rattle.sim_records.proofs.caps.all_aliases.Given as goal

-- the aliases of the nodes passed have been added
abbrev pub invariant-loop-node : goal.invariant-loop-node
invariant-loop-node l = l.aliases.items ≡ flat_map aliases_of (take l.node-index l.nodes)
