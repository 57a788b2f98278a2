-- The edges of rectangles and their sides.
use Rattle.interact.proofs.Common.{◌≡◌, inl, inr, ℤ, Bool, true, false, cond, List, [], ◌∷◌, get_or, filter, refl, sym, ◌∙◌, ap, subst, All}
use Rattle.interact.proofs.Common.{AllPairs, flat_map, int_cmp, In, Rect, has_square, Edge, begin_of, edges_of, IsOf64Bits, AreEdges, sides_of}
use Rattle.std.specs.Prelude.{IsPermutation}
use Rattle.std.specs.List.Sorted.{IsSortedByKey}
use Rattle.std.proofs.lemmas.Cmp.{int_cmp_total}
use Rattle.std.proofs.lemmas.List.Sorted.{All-permutation, IsPermutation-sym}
use Rattle.finite_sets.proofs.Members.{In-append_cases, In-filter, In-permutation}
use Rattle.finite_sets.proofs.Orders.{int_cmp-not_less, IsSortedByKey-pairs}
use Rattle.geo_core.specs.Covering.{IsProper}
use Rattle.geo_core.proofs.CoveringLaws.{has_square-IsProper}
use Rattle.interact.specs.steps.Edges.{IsAtNoLaterRow}

-- edges that a sort by rows has put in order
edges_in_order : (edges : List Edge) → IsSortedByKey (λ edge. edge.row) int_cmp edges → AllPairs IsAtNoLaterRow edges
edges_in_order edges sorted i j d less inside =
    int_cmp-not_less (get_or edges i d).row (get_or edges j d).row
    (IsSortedByKey-pairs (λ edge. edge.row) int_cmp int_cmp_total edges sorted i j d less inside)

-- the sorted list has the edges of the rectangles
pub edges_sorted : (areas : List Rect) (found edges : List Edge) → found ≡ flat_map edges_of (filter has_square areas) → All IsOf64Bits found
    → IsPermutation found edges → IsSortedByKey (λ edge. edge.row) int_cmp edges → AreEdges areas edges
edges_sorted areas found edges is fit moved sorted = record {
  moved = subst (λ v. IsPermutation v edges) is moved;
  fit = All-permutation IsOf64Bits found edges moved fit;
  ordered = edges_in_order edges sorted;
}

-- an edge is one of a rectangle
edge_source : (areas : List Rect) (edge : Edge) → In edge (flat_map edges_of areas) → (area : Rect) × (In area areas × In edge (edges_of area))
edge_source [] edge i = absurd i
edge_source (area ∷ rest) edge i = elim (In-append_cases edge (edges_of area) (flat_map edges_of rest) i) [
  | inl k ↦ (area, (inl refl, k))
  | inr k ↦ (let s = edge_source rest edge k in (s.0, (inr s.1.0, s.1.1)))
]

-- the beginning of a rectangle is an edge
begin_in_edges : (areas : List Rect) (area : Rect) → In area areas → In (begin_of area) (flat_map edges_of areas)
begin_in_edges [] area i = absurd i
begin_in_edges (a ∷ rest) area (inl e) = inl (ap begin_of e)
begin_in_edges (a ∷ rest) area (inr k) = inr (inr (begin_in_edges rest area k))

-- so is the beginning of each rectangle that has squares
pub proper_begin_in_edges : (areas : List Rect) (edges : List Edge) → AreEdges areas edges → (area : Rect) → In area areas → IsProper area
    → In (begin_of area) edges
proper_begin_in_edges areas edges are area i proper =
    In-permutation (begin_of area) (flat_map edges_of (filter has_square areas)) edges are.moved
    (begin_in_edges (filter has_square areas) area (In-filter has_square area areas i (has_square-IsProper area proper)))

-- what is a side of the first edge, if that is a beginning, or of the rest, is one of the whole
in_first : (f : Edge) (rest : List Edge) (x : ℤ) → f.begins ≡ true → In x (f.from ∷ f.to ∷ sides_of rest) → In x (sides_of (f ∷ rest))
in_first f rest x begins i = subst (λ v. In x (cond v (f.from ∷ f.to ∷ sides_of rest) (sides_of rest))) (sym begins) i

-- what is a side of the rest is one of the whole
in_rest : (begins : Bool) (f : Edge) (rest : List Edge) (x : ℤ) → In x (sides_of rest)
    → In x (cond begins (f.from ∷ f.to ∷ sides_of rest) (sides_of rest))
in_rest true f rest x i = inr (inr i)
in_rest false f rest x i = i

-- a beginning has its sides among them
begin_sides : (edges : List Edge) (edge : Edge) → In edge edges → edge.begins ≡ true → In edge.from (sides_of edges) × In edge.to (sides_of edges)
begin_sides [] edge i begins = absurd i
begin_sides (f ∷ rest) edge (inl is) begins =
    let first = ap (λ v. v.begins) is ∙ begins in
    (in_first f rest edge.from first (inl (ap (λ v. v.from) is)), in_first f rest edge.to first (inr (inl (ap (λ v. v.to) is))))
begin_sides (f ∷ rest) edge (inr k) begins =
    let later = begin_sides rest edge k begins in
    (in_rest f.begins f rest edge.from later.0, in_rest f.begins f rest edge.to later.1)

-- each edge of the rectangles has its sides among them
pub edge_sides : (areas : List Rect) (edges : List Edge) → AreEdges areas edges → (edge : Edge) → In edge edges
    → In edge.from (sides_of edges) × In edge.to (sides_of edges)
edge_sides areas edges are edge i =
    let all = flat_map edges_of (filter has_square areas) in
    let s = edge_source (filter has_square areas) edge (In-permutation edge edges all (IsPermutation-sym all edges are.moved) i) in
    let area = s.0 in
    let begins = In-permutation (begin_of area) all edges are.moved (begin_in_edges (filter has_square areas) area s.1.0) in
    let sides = begin_sides edges (begin_of area) begins refl in
    elim s.1.1 [
      | inl is ↦ (subst (λ (v : Edge). In v.from (sides_of edges)) is sides.0, subst (λ (v : Edge). In v.to (sides_of edges)) is sides.1)
      | inr (inl is) ↦ (subst (λ (v : Edge). In v.from (sides_of edges)) is sides.0, subst (λ (v : Edge). In v.to (sides_of edges)) is sides.1)
      | inr (inr none) ↦ absurd none
    ]
