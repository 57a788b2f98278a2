use Rattle.sim_networks.proofs.Common.{map, take, AreTransistors, transistor_of, names_with_nodes}
use Rattle.sim_networks.proofs.switches.switches_of.Given as goal

abbrev pub invariant-loop-fet : goal.invariant-loop-fet
invariant-loop-fet l = AreTransistors (names_with_nodes l.table) (map transistor_of (take l.fet-index l.fets)) l.switches.items
