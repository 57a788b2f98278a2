use Rattle.flood_nodes.proofs.Common.{◌≡◌, take, connected}
use Rattle.flood_nodes.proofs.linking.connected.Given as goal

abbrev pub invariant-loop-first : goal.invariant-loop-first
invariant-loop-first l = l.links.items ≡ connected l.tech l.tiles (take l.first-index l.pairs)
