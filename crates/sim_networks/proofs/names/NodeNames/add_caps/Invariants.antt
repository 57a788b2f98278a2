use Rattle.sim_networks.proofs.Common.{map, take, AddsNames}
use Rattle.sim_networks.proofs.names.NodeNames.add_caps.Given as goal

abbrev pub invariant-loop-cap : goal.invariant-loop-cap
invariant-loop-cap l = AddsNames (map (λ cap. cap.0) (take l.cap-index l.caps)) l.initial.self l.self
