-- Edge neighbours as a relation and as a list of four squares.
use Rattle.geo_core.proofs.Common.{inl, inr, refl, sym, Square, AreEdgeNeighbours}
use Rattle.geo_core.specs.Neighbours.{right_of, above}

-- neighbours are neighbours of each other
pub AreEdgeNeighbours-sym : (a b : Square) → AreEdgeNeighbours a b → AreEdgeNeighbours b a
AreEdgeNeighbours-sym a b (inl (inl up, same)) = inl (inr up, sym same)
AreEdgeNeighbours-sym a b (inl (inr down, same)) = inl (inl down, sym same)
AreEdgeNeighbours-sym a b (inr (same, inl up)) = inr (sym same, inr up)
AreEdgeNeighbours-sym a b (inr (same, inr down)) = inr (sym same, inl down)

-- each of the four is a neighbour
pub AreEdgeNeighbours-right_of : (a : Square) → AreEdgeNeighbours a (right_of a)
AreEdgeNeighbours-right_of a = inl (inl refl, refl)

-- and so is that above
pub AreEdgeNeighbours-above : (a : Square) → AreEdgeNeighbours a (above a)
AreEdgeNeighbours-above a = inr (refl, inl refl)
