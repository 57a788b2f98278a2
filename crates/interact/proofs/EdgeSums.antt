-- How many rectangles cover a square is the sum of what the edges below it and at it gain.
use Rattle.interact.proofs.Common.{◌≡◌, ℤ, pos, cond, List, filter, ◌∙◌, arith, ◌&&◌, int_le, int_lt, flat_map, ints, sum_on, one_if, Rect}
use Rattle.interact.proofs.Common.{has_square, is_covered, Edge, edges_of, gain_of, AreEdges}
use Rattle.finite_sets.proofs.Sums.{sum_on-same, sum_on-filter, sum_on-zero, sum_on-permutation, sum_on-flat_map}
use Rattle.geo_strips.proofs.SweepLaws.{at}
use Rattle.interact.proofs.CoveringCounts.{covering}

-- how many rectangles more cover the column from the edge on
abbrev pub gain_at : ℤ → Edge → ℤ
gain_at x edge = cond (int_le edge.from x && int_lt x edge.to) (gain_of edge) (pos 0)

-- the same, of edges that are at the row or at earlier ones
abbrev pub gain_until : ℤ → ℤ → Edge → ℤ
gain_until x y edge = cond (int_le edge.row y) (gain_at x edge) (pos 0)

-- the sum over the edges of rectangles that have squares
sum_on-edges : (areas : List Rect) (edges : List Edge) (w : Edge → ℤ) → AreEdges areas edges
    → sum_on w edges ≡ sum_on (λ area. cond (has_square area) (sum_on w (edges_of area)) (pos 0)) areas
sum_on-edges areas edges w are =
    sum_on-permutation w (flat_map edges_of (filter has_square areas)) edges are.moved
    ∙ sum_on-flat_map edges_of w (filter has_square areas)
    ∙ sum_on-filter has_square (λ area. sum_on w (edges_of area)) areas

-- a rectangle covers a square if it has begun and has not ended
gains_of_one : (area : Rect) (x y : ℤ)
    → cond (has_square area) (sum_on (gain_until x y) (edges_of area)) (pos 0) ≡ one_if (is_covered area (at x y))
gains_of_one area x y = grind (arith, ints)

-- of each rectangle's two edges one gains what the other loses
none_of_one : (area : Rect) (x : ℤ) → cond (has_square area) (sum_on (gain_at x) (edges_of area)) (pos 0) ≡ pos 0
none_of_one area x = grind (arith, ints)

-- so many rectangles cover a square as its edges gain
pub gains_cover : (areas : List Rect) (edges : List Edge) (x y : ℤ) → AreEdges areas edges → sum_on (gain_until x y) edges ≡ covering areas (at x y)
gains_cover areas edges x y are =
    sum_on-edges areas edges (gain_until x y) are
    ∙ sum_on-same (λ area. cond (has_square area) (sum_on (gain_until x y) (edges_of area)) (pos 0)) (λ area. one_if (is_covered area (at x y))) areas
    (λ area i. gains_of_one area x y)

-- all edges together gain nothing
pub gains_end : (areas : List Rect) (edges : List Edge) (x : ℤ) → AreEdges areas edges → sum_on (gain_at x) edges ≡ pos 0
gains_end areas edges x are =
    sum_on-edges areas edges (gain_at x) are
    ∙ sum_on-same (λ area. cond (has_square area) (sum_on (gain_at x) (edges_of area)) (pos 0)) (λ area. pos 0) areas (λ area i. none_of_one area x)
    ∙ sum_on-zero areas
