-- Walks from square to square within a rectangle: along a row, and then along a column.
use Rattle.flood_nodes.proofs.Common.{◌≡◌, ℕ, pos, ◌+ℤ◌, refl, sym, arith, ints, Square, Rect, Covers, AreEdgeNeighbours, right_of, above}
use Rattle.flood_nodes.proofs.Common.{AreEdgeNeighbours-right_of, AreEdgeNeighbours-above, square_is}
use Rattle.std.proofs.Common.{zero, suc}
use Rattle.std.proofs.lemmas.Int.{by_lt_z}
use Rattle.geo_core.proofs.NeighbourLaws.{AreEdgeNeighbours-sym}
use Rattle.geo_core.specs.FiniteSets.Chain.{Chain}
use Rattle.geo_core.specs.FiniteSets.Chain.Chain.{go}
use Rattle.geo_core.specs.FiniteSets.Range.{extent}
use Rattle.geo_core.proofs.FiniteSets.Chains.{Chain-append, Chain-back, Chain-same}
use Rattle.geo_core.proofs.FiniteSets.Ranges.{extent_up}

-- a step from a square of the rectangle to a neighbour in it
pub record StepsIn (area : Rect) (a b : Square) : Type 0 where
  pub from : Covers area a
  pub to : Covers area b
  pub near : AreEdgeNeighbours a b

StepsIn-sym : (area : Rect) (a b : Square) → StepsIn area a b → StepsIn area b a
StepsIn-sym area a b step = record { from = step.to; to = step.from; near = AreEdgeNeighbours-sym a b step.near }

-- so many steps to the right
rightwards : (area : Rect) (n : ℕ) (a b : Square) → b.x ≡ a.x +ℤ pos n → a.y ≡ b.y → Covers area a → Covers area b → Chain (StepsIn area) a b
rightwards area zero a b far row p q = Chain-same (StepsIn area) a b (square_is a b (omega (arith, ints)) row)
rightwards area (suc n) a b far row p q =
    let next : Covers area (right_of a) = record {
      right_of_xlo = omega (arith, ints);
      left_of_xhi = omega (arith, ints);
      above_ylo = p.above_ylo;
      below_yhi = p.below_yhi;
    } in
    go (record { from = p; to = next; near = AreEdgeNeighbours-right_of a }) (rightwards area n (right_of a) b (omega (arith, ints)) row next q)

-- so many steps up
upwards : (area : Rect) (n : ℕ) (a b : Square) → b.y ≡ a.y +ℤ pos n → a.x ≡ b.x → Covers area a → Covers area b → Chain (StepsIn area) a b
upwards area zero a b far column p q = Chain-same (StepsIn area) a b (square_is a b column (omega (arith, ints)))
upwards area (suc n) a b far column p q =
    let next : Covers area (above a) = record {
      right_of_xlo = p.right_of_xlo;
      left_of_xhi = p.left_of_xhi;
      above_ylo = omega (arith, ints);
      below_yhi = omega (arith, ints);
    } in
    go (record { from = p; to = next; near = AreEdgeNeighbours-above a }) (upwards area n (above a) b (omega (arith, ints)) column next q)

along_row : (area : Rect) (a b : Square) → a.y ≡ b.y → Covers area a → Covers area b → Chain (StepsIn area) a b
along_row area a b row p q =
    by_lt_z b.x a.x
    (λ left. Chain-back (StepsIn-sym area) (rightwards area (extent b.x a.x) b a (sym (extent_up b.x a.x (omega (arith, ints)))) (sym row) q p))
    (λ right. rightwards area (extent a.x b.x) a b (sym (extent_up a.x b.x right)) row p q)

along_column : (area : Rect) (a b : Square) → a.x ≡ b.x → Covers area a → Covers area b → Chain (StepsIn area) a b
along_column area a b column p q =
    by_lt_z b.y a.y
    (λ down. Chain-back (StepsIn-sym area) (upwards area (extent b.y a.y) b a (sym (extent_up b.y a.y (omega (arith, ints)))) (sym column) q p))
    (λ up. upwards area (extent a.y b.y) a b (sym (extent_up a.y b.y up)) column p q)

-- from each square of a rectangle to each other
pub walk : (area : Rect) (a b : Square) → Covers area a → Covers area b → Chain (StepsIn area) a b
walk area a b p q =
    let corner : Square = record { x = b.x; y = a.y } in
    let inside : Covers area corner = record { right_of_xlo = q.right_of_xlo; left_of_xhi = q.left_of_xhi; above_ylo = p.above_ylo; below_yhi = p.below_yhi } in
    Chain-append (along_row area a corner refl p inside) (along_column area corner b refl inside q)
