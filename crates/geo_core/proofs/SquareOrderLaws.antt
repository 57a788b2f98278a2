-- The order of squares is strict.
use Rattle.finite_sets.proofs.Orders.{Lexicographic-irreflexive, Lexicographic-trans, less-irreflexive, less-trans}
use Rattle.geo_core.proofs.Common.{Square}
use Rattle.geo_core.specs.SquareOrder.{ComesBefore}

-- no square comes before itself
pub ComesBefore-irreflexive : (a : Square) → ComesBefore a a → ⊥
ComesBefore-irreflexive a = Lexicographic-irreflexive a.y (less-irreflexive a.x)

-- what comes before a square comes before all after it
pub ComesBefore-trans : (a b c : Square) → ComesBefore a b → ComesBefore b c → ComesBefore a c
ComesBefore-trans a b c = Lexicographic-trans a.y b.y c.y (less-trans a.x b.x c.x)
