use Rattle.flatten.proofs.Common.{map, take, AreSpotsOf}
use Rattle.flatten.proofs.spots.node_spots.Given as goal

abbrev pub invariant-loop-node : goal.invariant-loop-node
invariant-loop-node l = AreSpotsOf l.names l.cell (map (λ node. node.name) (take l.node-index l.nodes)) l.spots.items
