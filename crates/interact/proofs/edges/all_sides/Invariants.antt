use Rattle.interact.proofs.Common.{◌≡◌, ◌++◌, drop, sides_of}
use Rattle.interact.proofs.edges.all_sides.Given as goal

-- the sides so far, with those of the edges to come
abbrev pub invariant-loop-edge : goal.invariant-loop-edge
invariant-loop-edge l = l.found.items ++ sides_of (drop l.edge-index l.edges) ≡ sides_of l.edges
