use Rattle.flood_nodes.proofs.Common.{◌≡◌, filter, take}
use Rattle.flood_nodes.proofs.LinkLaws.{passes_reach}
use Rattle.flood_nodes.proofs.linking.reaching.Given as goal

abbrev pub invariant-loop-place : goal.invariant-loop-place
invariant-loop-place l = l.places.items ≡ filter (passes_reach l.tech l.tiles l.plane l.other) (take l.place-index l.crossings)
