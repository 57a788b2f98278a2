use Rattle.sim_networks.proofs.Common.{◌≡◌, take, names_with_nodes}
use Rattle.sim_networks.proofs.nodes.NodeTable.listed.Given as goal

abbrev pub invariant-loop-number : goal.invariant-loop-number
invariant-loop-number l = l.listed.items ≡ take l.number (names_with_nodes l.self)
