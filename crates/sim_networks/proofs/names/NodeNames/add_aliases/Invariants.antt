use Rattle.sim_networks.proofs.Common.{take, names_of_aliases, AddsNames}
use Rattle.sim_networks.proofs.names.NodeNames.add_aliases.Given as goal

abbrev pub invariant-loop-pair : goal.invariant-loop-pair
invariant-loop-pair l = AddsNames (names_of_aliases (take l.pair-index l.aliases)) l.initial.self l.self
