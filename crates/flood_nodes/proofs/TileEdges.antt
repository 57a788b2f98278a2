-- Edges from the squares of one tile to the squares of another.
use Rattle.flood_nodes.proofs.Common.{◌≡◌, ◌≢◌, ℕ, ◌<◌, ℤ, pos, ◌+ℤ◌, Bool, true, cond, eqb, List, [], ◌∷◌, map, length, get_or, Some, inl, inr}
use Rattle.flood_nodes.proofs.Common.{refl, sym, ◌∙◌, ap, subst, arith, slice_get, All, AllPairs, cases_eq, cases_lt, ints, slice_get_within}
use Rattle.flood_nodes.proofs.Common.{slice_get-get_or, get_or_from_slice_get, same_Some, Square, Covers, IsProper, is_covered, AreDisjoint}
use Rattle.flood_nodes.proofs.Common.{AreEdgeNeighbours, right_of, above, Covers-is_covered, is_covered-Covers, AreEdgeNeighbours-right_of}
use Rattle.flood_nodes.proofs.Common.{AreEdgeNeighbours-above, square_is, In, Distinct, Lists, sum_on, Total, one_if, Lists-iff, Lists-map}
use Rattle.flood_nodes.proofs.Common.{sum_on-map, Total-iff, Total-at, shared_length, Place, AreNeighbours, RegionTile, LeadsAcross, LiesIn}
use Rattle.flood_nodes.proofs.Common.{LieApart, tile_at, no_tile, shared_by, inner_edges}
use Rattle.geo_core.specs.Neighbours.{edge_neighbours, left_of, below}
use Rattle.geo_core.proofs.FiniteSets.Totals.{Total-none, Total-from_list, Total-filter, Total-map, Total-parts}
use Rattle.rect_contacts.specs.Squares.{squares_of, edges_between}
use Rattle.rect_contacts.proofs.Leading.{Lists-squares_of, edges_between-disjoint, edges_between-same}
use Rattle.flood_nodes.proofs.ShareLaws.{one_plane, two_planes, shared_by-same}

apart_at : (tiles : List RegionTile) (i j : ℕ) (a b : RegionTile) → AllPairs LieApart tiles → i < j → slice_get tiles i ≡ Some a
    → slice_get tiles j ≡ Some b → LieApart a b
apart_at tiles i j a b apart less at_i at_j =
    let inside = slice_get_within tiles j b at_j in
    subst (λ (t : RegionTile). LieApart t b) (get_or_from_slice_get tiles i a a at_i)
    (subst (λ (t : RegionTile). LieApart (get_or tiles i a) t) (get_or_from_slice_get tiles j b a at_j) (apart i j a less inside))

-- two tiles of the list of one plane are disjoint
pub disjoint_at : (tiles : List RegionTile) (i j : ℕ) (a b : RegionTile) → AllPairs LieApart tiles → i ≢ j → slice_get tiles i ≡ Some a
    → slice_get tiles j ≡ Some b → a.plane ≡ b.plane → AreDisjoint a.area b.area
disjoint_at tiles i j a b apart other at_i at_j plane = elim (cases_lt i j) [
  | inl less ↦ apart_at tiles i j a b apart less at_i at_j plane
  | inr no_less ↦ (λ square p q. apart_at tiles j i b a apart (omega arith) at_j at_i (sym plane) square q p)
]

-- a place lies in one tile
pub lies_in_one : (tiles : List RegionTile) (i j : ℕ) (place : Place) → AllPairs LieApart tiles → LiesIn tiles i place → LiesIn tiles j place → i ≡ j
lies_in_one tiles i j place apart p q = elim (cases_eq i j) [
  | inl same ↦ same
  | inr other ↦ absurd (disjoint_at tiles i j p.tile q.tile apart other p.there q.there (sym p.plane ∙ q.plane) place.square p.covers q.covers)
]

-- a square of a plane, as a place
abbrev pub place_on : ℕ → Square → Place
place_on plane square = record { plane = plane; square = square }

pub place_is : (plane : ℕ) (place : Place) → place.plane ≡ plane → place_on plane place.square ≡ place
place_is plane place is = let whole : place_on plane place.square ≡ record { plane = place.plane; square = place.square } = rw is refl in whole

-- the places of a tile
pub Lists-tile : (tiles : List RegionTile) (index : ℕ) (tile : RegionTile) → slice_get tiles index ≡ Some tile
    → Lists (LiesIn tiles index) (map (place_on tile.plane) (squares_of tile.area))
Lists-tile tiles index tile there =
    Lists-iff (λ (place : Place). (square : Square) × (Covers tile.area square × (place_on tile.plane square ≡ place))) (LiesIn tiles index) (map (place_on
    tile.plane) (squares_of tile.area))
    (λ place h. record {
      tile = tile;
      there = there;
      plane = sym (ap (λ (p : Place). p.plane) h.1.1);
      covers = subst (λ (p : Place). Covers tile.area p.square) h.1.1 h.1.0;
    })
    (λ place lies.
    let same : lies.tile ≡ tile = same_Some lies.tile tile (sym lies.there ∙ there) in (
      place.square,
      (
        subst (λ (t : RegionTile). Covers t.area place.square) same lies.covers,
        place_is tile.plane place (lies.plane
            ∙ ap (λ (t : RegionTile). t.plane) same),
      ),
    ))
    (Lists-map (Covers tile.area) (place_on tile.plane) (squares_of tile.area) (λ a b in_a in_b e. ap (λ (p : Place). p.square) e) (Lists-squares_of tile.area))

-- the neighbours of a square
other_column : (s t : Square) → s.x ≢ t.x → s ≢ t
other_column s t differ same = differ (ap (λ (q : Square). q.x) same)

other_row : (s t : Square) → s.y ≢ t.y → s ≢ t
other_row s t differ same = differ (ap (λ (q : Square). q.y) same)

four_differ : (s : Square) → Distinct (edge_neighbours s)
four_differ s = (right_differs, (left_differs, (above_differs, ((λ i. i), tt))))
  where
    right_differs : In (right_of s) (left_of s ∷ above s ∷ below s ∷ []) → ⊥
    right_differs (inl e) = other_column (left_of s) (right_of s) (omega (arith, ints)) e
    right_differs (inr (inl e)) = other_column (above s) (right_of s) (omega (arith, ints)) e
    right_differs (inr (inr (inl e))) = other_column (below s) (right_of s) (omega (arith, ints)) e
    right_differs (inr (inr (inr e))) = e

    left_differs : In (left_of s) (above s ∷ below s ∷ []) → ⊥
    left_differs (inl e) = other_column (above s) (left_of s) (omega (arith, ints)) e
    left_differs (inr (inl e)) = other_column (below s) (left_of s) (omega (arith, ints)) e
    left_differs (inr (inr e)) = e

    above_differs : In (above s) (below s ∷ []) → ⊥
    above_differs (inl e) = other_row (below s) (above s) (omega (arith, ints)) e
    above_differs (inr e) = e

-- a neighbour is one of the four
one_of_four : (s t : Square) → AreEdgeNeighbours s t → In t (edge_neighbours s)
one_of_four s t (inl (inl right, row)) = inl (square_is (right_of s) t (sym right) row)
one_of_four s t (inl (inr left, row)) = inr (inl (square_is (left_of s) t (omega (arith, ints, left)) row))
one_of_four s t (inr (column, inl up)) = inr (inr (inl (square_is (above s) t column (sym up))))
one_of_four s t (inr (column, inr down)) = inr (inr (inr (inl (square_is (below s) t column (omega (arith, ints, down))))))

-- and each of the four is a neighbour
four_near : (s t : Square) → In t (edge_neighbours s) → AreEdgeNeighbours s t
four_near s t (inl e) = subst (AreEdgeNeighbours s) e (AreEdgeNeighbours-right_of s)
four_near s t (inr (inl e)) = subst (AreEdgeNeighbours s) e (inl (inr (omega (arith, ints)), refl))
four_near s t (inr (inr (inl e))) = subst (AreEdgeNeighbours s) e (AreEdgeNeighbours-above s)
four_near s t (inr (inr (inr (inl e)))) = subst (AreEdgeNeighbours s) e (inr (refl, inr (omega (arith, ints))))
four_near s t (inr (inr (inr (inr e)))) = absurd e

pub Lists-edge_neighbours : (s : Square) → Lists (AreEdgeNeighbours s) (edge_neighbours s)
Lists-edge_neighbours s = (four_differ s, one_of_four s, four_near s)

module _ (tiles : List RegionTile) (i j : ℕ) (a b : RegionTile) (at_i : slice_get tiles i ≡ Some a) (at_j : slice_get tiles j ≡ Some b) where
  -- an edge from the first tile to the second
  abbrev Across : Place × Place → Type 0
  Across = LeadsAcross (LiesIn tiles i) (LiesIn tiles j)

  abbrev beside : Square → ℤ
  beside square = sum_on (λ other. one_if (is_covered b.area other)) (edge_neighbours square)

  -- the edges from one place
  from_place : (plane : a.plane ≡ b.plane) (l : Place) → LiesIn tiles i l → Total (λ (e : Place × Place). Across e × (l ≡ e.0)) (λ e. pos 1) (beside l.square)
  from_place plane l lies =
      let covered : Square → Bool = is_covered b.area in
      let edge : Square → Place × Place = λ t. (l, place_on l.plane t) in
      let l_plane : l.plane ≡ b.plane = lies.plane ∙ ap (λ (t : RegionTile). t.plane) (same_Some lies.tile a (sym lies.there ∙ at_i)) ∙ plane in
      Total-iff (λ (e : Place × Place). (t : Square) × ((AreEdgeNeighbours l.square t × (covered t ≡ true)) × (edge t ≡ e))) (λ (e : Place × Place). Across e
      × (l ≡ e.0)) (λ e. pos 1) (beside l.square)
      (λ e h.
      let here : l ≡ e.0 = ap (λ (p : Place × Place). p.0) h.1.1 in
      let across : Across (edge h.0) = record {
        from = lies;
        to = record { tile = b; there = at_j; plane = l_plane; covers = Covers-is_covered b.area h.0 h.1.0.1 };
        near = (refl, h.1.0.0);
      } in
      (subst Across h.1.1 across, here))
      (λ e h.
      let across = h.0 in
      let near : AreNeighbours l e.1 = subst (λ (p : Place). AreNeighbours p e.1) (sym h.1) across.near in
      let tile : across.to.tile ≡ b = same_Some across.to.tile b (sym across.to.there ∙ at_j) in
      let covers : Covers b.area e.1.square = subst (λ (t : RegionTile). Covers t.area e.1.square) tile across.to.covers in
      let second : place_on l.plane e.1.square ≡ e.1 = place_is l.plane e.1 (sym near.0) in
      let both : edge e.1.square ≡ e = ap (λ (p : Place). (l, p)) second ∙ ap (λ (p : Place). (p, e.1)) h.1 in
      (e.1.square, ((near.1, is_covered-Covers b.area e.1.square covers), both)))
      (Total-map (λ (t : Square). AreEdgeNeighbours l.square t × (covered t ≡ true)) edge (λ e. pos 1) (beside l.square)
      (λ s t p q same. ap (λ (e : Place × Place). e.1.square) same)
      (Total-filter (AreEdgeNeighbours l.square) covered (λ t. pos 1) (beside l.square)
      (Total-from_list (AreEdgeNeighbours l.square) (λ (t : Square). one_if (covered t)) (edge_neighbours l.square) (Lists-edge_neighbours l.square))))

  -- the edges between tiles of one plane
  pub edges_on_plane : (plane : a.plane ≡ b.plane) → Total Across (λ e. pos 1) (edges_between a.area b.area)
  edges_on_plane plane =
      let places = map (place_on a.plane) (squares_of a.area) in
      let listed = Lists-tile tiles i a at_i in
      Total-at Across (λ e. pos 1) (sum_on (λ (l : Place). beside l.square) places) (edges_between a.area b.area)
      (sum_on-map (place_on a.plane) (λ (l : Place). beside l.square) (squares_of a.area))
      (Total-iff (λ (e : Place × Place). Across e × In e.0 places) Across (λ e. pos 1) (sum_on (λ (l : Place). beside l.square) places)
      (λ e h. h.0) (λ e h. (h, listed.1 e.0 h.from))
      (Total-parts Across (λ (e : Place × Place). e.0) (λ e. pos 1) (λ (l : Place). beside l.square) places listed.0
      (λ l among. from_place plane l (listed.2 l among))))

  -- none between tiles of two planes
  pub edges_off_plane : a.plane ≢ b.plane → Total Across (λ e. pos 1) (pos 0)
  edges_off_plane other = Total-none Across (λ e. pos 1)
      (λ e across.
      let first = ap (λ (t : RegionTile). t.plane) (same_Some across.from.tile a (sym across.from.there ∙ at_i)) in
      let second = ap (λ (t : RegionTile). t.plane) (same_Some across.to.tile b (sym across.to.there ∙ at_j)) in
      other (sym first ∙ sym across.from.plane ∙ across.near.0 ∙ across.to.plane ∙ second))

-- how many edges lead from the one tile to the other
abbrev pub edges_of : List RegionTile → ℕ → ℕ → ℤ
edges_of tiles i j = cond (eqb i j) (inner_edges (tile_at tiles i).area) (pos 0) +ℤ shared_by (tile_at tiles i) (tile_at tiles j)

pub edges_of_pair : (tiles : List RegionTile) (i j : ℕ) → All (λ (t : RegionTile). IsProper t.area) tiles → AllPairs LieApart tiles → i < length tiles
    → j < length tiles
    → Total (LeadsAcross (LiesIn tiles i) (LiesIn tiles j)) (λ e. pos 1) (edges_of tiles i j)
edges_of_pair tiles i j proper apart in_i in_j =
    let a = tile_at tiles i in
    let b = tile_at tiles j in
    let at_i = slice_get-get_or tiles i no_tile in_i in
    let at_j = slice_get-get_or tiles j no_tile in_j in
    let p = proper i no_tile in_i in
    let q = proper j no_tile in_j in
    let Across = LeadsAcross (LiesIn tiles i) (LiesIn tiles j) in
    elim (cases_eq i j) [
      | inl same ↦
          (let one : a ≡ b = ap (tile_at tiles) same in
          let inner : edges_between a.area b.area ≡ inner_edges a.area = ap (λ (t : RegionTile). edges_between a.area t.area) (sym one)
          ∙ edges_between-same a.area p in
          let none : shared_by a b ≡ pos 0 = ap (shared_by a) (sym one) ∙ shared_by-same a p in
          Total-at Across (λ e. pos 1) (edges_between a.area b.area) (edges_of tiles i j)
          (inner ∙ plus_none (inner_edges a.area)
          ∙ sym (ap (λ (t : Bool). cond t (inner_edges a.area) (pos 0) +ℤ shared_by a b) (one_plane i j same) ∙ ap (λ (z : ℤ). inner_edges a.area +ℤ z) none))
          (edges_on_plane tiles i j a b at_i at_j (ap (λ (t : RegionTile). t.plane) one)))
      | inr other ↦
          (let only_shared : edges_of tiles i j ≡ pos 0 +ℤ shared_by a b = ap (λ (t : Bool). cond t (inner_edges a.area) (pos 0) +ℤ shared_by a b)
          (two_planes i j other) in
          elim (cases_eq a.plane b.plane) [
            | inl plane ↦
                Total-at Across (λ e. pos 1) (edges_between a.area b.area) (edges_of tiles i j)
                (edges_between-disjoint a.area b.area p q (disjoint_at tiles i j a b apart other at_i at_j plane)
                ∙ none_plus (shared_length a.area b.area)
                ∙ sym (only_shared ∙ ap (λ (t : Bool). pos 0 +ℤ cond t (shared_length a.area b.area) (pos 0)) (one_plane a.plane b.plane plane)))
                (edges_on_plane tiles i j a b at_i at_j plane)
            | inr planes ↦
                Total-at Across (λ e. pos 1) (pos 0) (edges_of tiles i j)
                (sym (only_shared ∙ ap (λ (t : Bool). pos 0 +ℤ cond t (shared_length a.area b.area) (pos 0)) (two_planes a.plane b.plane planes)))
                (edges_off_plane tiles i j a b at_i at_j planes)
          ])
    ]
  where
    plus_none : (z : ℤ) → z ≡ z +ℤ pos 0
    plus_none z = omega (arith, ints)

    none_plus : (z : ℤ) → z ≡ pos 0 +ℤ z
    none_plus z = omega (arith, ints)
