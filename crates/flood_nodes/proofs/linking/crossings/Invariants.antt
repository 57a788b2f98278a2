use Rattle.flood_nodes.proofs.Common.{Lists, has_other_images, tile_at}
use Rattle.flood_nodes.proofs.LinkLaws.{PassesBelow}
use Rattle.flood_nodes.proofs.linking.crossings.Given as goal

abbrev pub invariant-loop-place : goal.invariant-loop-place
invariant-loop-place l = Lists (PassesBelow (λ k. has_other_images l.tech (tile_at l.tiles k).kind.0) l.place) l.places.items
