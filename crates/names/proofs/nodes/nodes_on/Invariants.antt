use Rattle.names.proofs.NodeLists.{HasNodes}
use Rattle.names.proofs.nodes.nodes_on.Given as goal

abbrev pub invariant-loop-tile : goal.invariant-loop-tile
invariant-loop-tile l = HasNodes l.tech l.labels l.firsts l.classes l.regions l.indices l.tile-index l.nodes.items
