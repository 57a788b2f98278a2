use Rattle.flood_nodes.proofs.Common.{◌≡◌, ◌<◌, AddsMeeting}
use Rattle.flood_nodes.proofs.linking.add_stacked_above.Given as goal

abbrev pub invariant-loop-high : goal.invariant-loop-high
invariant-loop-high l = AddsMeeting l.tech l.tiles (λ p. p ≡ l.low) (λ p q. (p < q) × (q < l.high)) l.initial.links.items l.links.items
