use Rattle.sim_networks.proofs.Common.{map, take, names_of_transistors, transistor_of, AddsNames}
use Rattle.sim_networks.proofs.names.NodeNames.add_fets.Given as goal

abbrev pub invariant-loop-fet : goal.invariant-loop-fet
invariant-loop-fet l = AddsNames (names_of_transistors (map transistor_of (take l.fet-index l.fets))) l.initial.self l.self
