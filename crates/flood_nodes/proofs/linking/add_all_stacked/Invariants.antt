use Rattle.flood_nodes.proofs.Common.{◌<◌, length, AddsMeeting}
use Rattle.flood_nodes.proofs.linking.add_all_stacked.Given as goal

abbrev pub invariant-loop-low : goal.invariant-loop-low
invariant-loop-low l = AddsMeeting l.tech l.tiles (λ p. p < l.low) (λ p q. (p < q) × (q < length l.tech.planes)) l.initial.links.items l.links.items
