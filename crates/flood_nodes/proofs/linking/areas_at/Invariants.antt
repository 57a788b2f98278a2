use Rattle.flood_nodes.proofs.Common.{◌≡◌, take, areas_at}
use Rattle.flood_nodes.proofs.linking.areas_at.Given as goal

abbrev pub invariant-loop-place : goal.invariant-loop-place
invariant-loop-place l = l.areas.items ≡ areas_at l.tiles (take l.place-index l.places)
