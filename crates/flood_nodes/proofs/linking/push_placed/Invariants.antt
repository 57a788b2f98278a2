use Rattle.flood_nodes.proofs.Common.{◌≡◌, ◌++◌, take}
use Rattle.flood_nodes.specs.Stacking.{placed_in}
use Rattle.flood_nodes.proofs.linking.push_placed.Given as goal

abbrev pub invariant-loop-low : goal.invariant-loop-low
invariant-loop-low l = l.links.items ≡ l.initial.links.items ++ placed_in l.lows l.highs (take l.low-index l.pairs)
