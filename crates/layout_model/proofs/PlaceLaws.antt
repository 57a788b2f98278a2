-- Neighbours and the order of places.
use Rattle.std.proofs.Common.{◌≡◌, ◌<◌, inl, inr, arith, sym, subst, ◌∙◌}
use Rattle.geo_core.proofs.NeighbourLaws.{AreEdgeNeighbours-sym}
use Rattle.geo_core.proofs.SquareOrderLaws.{ComesBefore-irreflexive, ComesBefore-trans}
use Rattle.layout_model.specs.Places.{Place, AreNeighbours, AreStacked, IsBefore, IsNoLater}

-- neighbours are neighbours of each other
pub AreNeighbours-sym : (a b : Place) → AreNeighbours a b → AreNeighbours b a
AreNeighbours-sym a b (plane, edge) = (sym plane, AreEdgeNeighbours-sym a.square b.square edge)

-- what is stacked is so both ways
pub AreStacked-sym : (a b : Place) → AreStacked a b → AreStacked b a
AreStacked-sym a b (planes, square) = ((λ same. planes (sym same)), sym square)

-- no place is before itself
pub IsBefore-irreflexive : (a : Place) → IsBefore a a → ⊥
IsBefore-irreflexive a (inl plane) = omega (arith, plane)
IsBefore-irreflexive a (inr (same, square)) = ComesBefore-irreflexive a.square square

-- a place before another is before all after it
pub IsBefore-trans : (a b c : Place) → IsBefore a b → IsBefore b c → IsBefore a c
IsBefore-trans a b c (inl p) (inl q) = inl (omega (arith, p, q))
IsBefore-trans a b c (inl p) (inr (same, q)) = inl (subst (λ n. a.plane < n) same p)
IsBefore-trans a b c (inr (same, p)) (inl q) = inl (subst (λ n. n < c.plane) (sym same) q)
IsBefore-trans a b c (inr (same, p)) (inr (also, q)) = inr (same ∙ also, ComesBefore-trans a.square b.square c.square p q)

-- two places of which neither is later than the other are one
pub IsNoLater-antisym : (a b : Place) → IsNoLater a b → IsNoLater b a → a ≡ b
IsNoLater-antisym a b (inl same) q = same
IsNoLater-antisym a b (inr p) (inl same) = sym same
IsNoLater-antisym a b (inr p) (inr q) = absurd (IsBefore-irreflexive a (IsBefore-trans a b a p q))
