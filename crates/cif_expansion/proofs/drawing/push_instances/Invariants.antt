use Rattle.cif_expansion.proofs.Common.{◌≡◌, ◌++◌, map, take, composed}
use Rattle.cif_expansion.proofs.drawing.push_instances.Given as goal

abbrev pub invariant-loop-placement : goal.invariant-loop-placement
invariant-loop-placement l = l.instances.items ≡ l.initial.instances.items ++ map (composed l.call) (take l.placement-index l.placements)
