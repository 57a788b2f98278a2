-- Tiles joined by contacts and by what lies upon each other are joined by links between their places, and the other way round.
use Rattle.flood_nodes.proofs.Common.{◌≡◌, ◌≢◌, ◌⊎◌, ℕ, ℤ, pos, ◌<ℤ◌, Bool, List, IsTrue, length, get_or, Some, inl, inr, refl, sym, ◌∙◌, ap, subst}
use Rattle.flood_nodes.proofs.Common.{arith, slice_get, All, cases_eq, slice_get_within, get_or_from_slice_get, same_Some, Square, Covers, IsProper}
use Rattle.flood_nodes.proofs.Common.{shared_length-comm, Divides, Place, AreNeighbours, Layout, IsMaterial, RegionTile, LiesIn, AreLayoutTiles}
use Rattle.flood_nodes.proofs.Common.{AreLinkedTiles, JoinTiles, NumbersNodes}
use Rattle.geo_core.specs.FiniteSets.Chain.{EitherWay}
use Rattle.geo_core.specs.FiniteSets.Chain.Chain.{stay, go}
use Rattle.geo_core.proofs.FiniteSets.Chains.{Chain-one, Chain-append, Chain-map, Chain-same}
use Rattle.partition.specs.Divides.{IsJoined}
use Rattle.layout_model.specs.Places.{AreStacked}
use Rattle.layout_model.specs.Links.{AreLinked, AreOneNode}
use Rattle.layout_model.specs.Laws.{ConnectsBothWays}
use Rattle.rect_contacts.proofs.Abutting.{shared_abut, neighbours_share}
use Rattle.flood_nodes.proofs.Walks.{walk}
use Rattle.flood_nodes.proofs.TileEdges.{disjoint_at, lies_in_one, place_on, place_is}

module _ (connects : ℕ → ℕ → Bool) (layout : Layout) (tiles : List RegionTile) (are : AreLayoutTiles layout tiles)
    (symmetric : ConnectsBothWays connects) (reflexive : All (λ (tile : RegionTile). IsTrue (connects tile.kind.0 tile.kind.0)) tiles) where
  abbrev Linked : Place → Place → Type 0
  Linked = AreLinked connects layout

  tile_is_material : (i : ℕ) (a : Place) → LiesIn tiles i a → IsMaterial layout a
  tile_is_material i a p zero_there =
      let stands : get_or tiles i p.tile ≡ p.tile = get_or_from_slice_get tiles i p.tile p.tile p.there in
      let material = are.material i p.tile (slice_get_within tiles i p.tile p.there) in
      material (ap (λ (t : RegionTile). t.kind.0) stands ∙ sym (are.kinds i a p) ∙ zero_there)

  -- places of two tiles whose types connect are linked, where they are near
  linked : (i j : ℕ) (a b : Place) → (p : LiesIn tiles i a) → (q : LiesIn tiles j b) → IsTrue (connects p.tile.kind.0 q.tile.kind.0)
      → (AreNeighbours a b ⊎ AreStacked a b) → Linked a b
  linked i j a b p q connected near = record {
    here = tile_is_material i a p;
    there = tile_is_material j b q;
    near = near;
    connected = subst (λ (s : ℕ). IsTrue (connects s (layout b))) (sym (are.kinds i a p)) (subst (λ (t : ℕ). IsTrue (connects p.tile.kind.0 t)) (sym
        (are.kinds j b q)) connected);
  }

  abbrev at_square : (i : ℕ) (tile : RegionTile) (square : Square) → slice_get tiles i ≡ Some tile → Covers tile.area square
      → LiesIn tiles i (place_on tile.plane square)
  at_square i tile square there covers = record { tile = tile; there = there; plane = refl; covers = covers }

  connects_itself : (i : ℕ) (tile : RegionTile) → slice_get tiles i ≡ Some tile → IsTrue (connects tile.kind.0 tile.kind.0)
  connects_itself i tile there =
      subst (λ (t : RegionTile). IsTrue (connects t.kind.0 t.kind.0)) (get_or_from_slice_get tiles i tile tile there) (reflexive i tile (slice_get_within
      tiles i tile there))

  -- the places of one tile are one node
  within_tile : (i : ℕ) (a b : Place) → LiesIn tiles i a → LiesIn tiles i b → AreOneNode connects layout a b
  within_tile i a b p q =
      let same : q.tile ≡ p.tile = same_Some q.tile p.tile (sym q.there ∙ p.there) in
      let covers : Covers p.tile.area b.square = subst (λ (t : RegionTile). Covers t.area b.square) same q.covers in
      let b_plane : b.plane ≡ p.tile.plane = q.plane ∙ ap (λ (t : RegionTile). t.plane) same in
      let chain = Chain-map (place_on p.tile.plane) (λ s t step.
      Chain-one (linked i i (place_on p.tile.plane s) (place_on p.tile.plane t) (at_square i p.tile s p.there step.from) (at_square i p.tile t p.there step.to)
      (connects_itself i p.tile p.there) (inl (refl, step.near))))
      (walk p.tile.area a.square b.square p.covers covers) in
      Chain-append (Chain-same Linked a (place_on p.tile.plane a.square) (sym (place_is p.tile.plane a p.plane)))
      (Chain-append chain (Chain-same Linked (place_on p.tile.plane b.square) b (place_is p.tile.plane b b_plane)))

  tile_is_proper : (i : ℕ) (tile : RegionTile) → slice_get tiles i ≡ Some tile → IsProper tile.area
  tile_is_proper i tile there = subst (λ (t : RegionTile). IsProper t.area) (get_or_from_slice_get tiles i tile tile there) (are.proper i tile
      (slice_get_within tiles i tile there))

  -- linked places in two tiles
  record Crossing (i j : ℕ) : Type 0 where
    from : Place
    to : Place
    in_first : LiesIn tiles i from
    in_second : LiesIn tiles j to
    link : Linked from to

  crossing : (i j : ℕ) → AreLinkedTiles connects tiles i j → Crossing i j
  crossing i j tied = elim tied.meet [
    | inl beside ↦
        (let abut = shared_abut tied.first.area tied.second.area (tile_is_proper i tied.first tied.first_there) (tile_is_proper j tied.second
        tied.second_there) beside.1 in
        let from = at_square i tied.first abut.here tied.first_there abut.in_first in
        let to = at_square j tied.second abut.there tied.second_there abut.in_second in
        record {
          from = place_on tied.first.plane abut.here;
          to = place_on tied.second.plane abut.there;
          in_first = from;
          in_second = to;
          link = linked i j (place_on tied.first.plane abut.here) (place_on tied.second.plane abut.there) from to tied.connected (inl (beside.0, abut.near));
        })
    | inr upon ↦
        (let square = upon.1.square in
        let from = at_square i tied.first square tied.first_there upon.1.in_first in
        let to = at_square j tied.second square tied.second_there upon.1.in_second in
        record {
          from = place_on tied.first.plane square;
          to = place_on tied.second.plane square;
          in_first = from;
          in_second = to;
          link = linked i j (place_on tied.first.plane square) (place_on tied.second.plane square) from to tied.connected (inr (upon.0, refl));
        })
  ]

  -- a link between places of two tiles links the tiles
  link_ties : (i j : ℕ) (a b : Place) → LiesIn tiles i a → LiesIn tiles j b → Linked a b → i ≢ j → AreLinkedTiles connects tiles i j
  link_ties i j a b p q link other = record {
    first = p.tile;
    second = q.tile;
    first_there = p.there;
    second_there = q.there;
    connected = subst (λ (s : ℕ). IsTrue (connects s q.tile.kind.0)) (are.kinds i a p) (subst (λ (t : ℕ). IsTrue (connects (layout a) t)) (are.kinds j b q)
        link.connected);
    meet = elim link.near [
      | inl beside ↦
          (let plane : p.tile.plane ≡ q.tile.plane = sym p.plane ∙ beside.0 ∙ q.plane in
          inl (
            plane,
            neighbours_share p.tile.area q.tile.area a.square b.square (disjoint_at tiles i j p.tile q.tile are.apart other p.there q.there plane)
                p.covers q.covers beside.1,
          ))
      | inr stacked ↦
          inr (
            (λ same. stacked.0 (p.plane ∙ same ∙ sym q.plane)),
            record { square = a.square; in_first = p.covers; in_second = subst (λ (s : Square). Covers q.tile.area s) (sym stacked.1) q.covers },
          )
    ];
  }

  tied-sym : (i j : ℕ) → AreLinkedTiles connects tiles i j → AreLinkedTiles connects tiles j i
  tied-sym i j tied = record {
    first = tied.second;
    second = tied.first;
    first_there = tied.second_there;
    second_there = tied.first_there;
    connected = subst (λ (t : Bool). IsTrue t) (symmetric tied.first.kind.0 tied.second.kind.0) tied.connected;
    meet = elim tied.meet [
      | inl beside ↦ inl (sym beside.0, subst (λ (z : ℤ). pos 0 <ℤ z) (shared_length-comm tied.first.area tied.second.area) beside.1)
      | inr upon ↦ inr ((λ same. upon.0 (sym same)), record { square = upon.1.square; in_first = upon.1.in_second; in_second = upon.1.in_first })
    ];
  }

  module _ (Link : ℕ → ℕ → Type 0) (join : JoinTiles connects tiles Link) where
    linked_joined : (i j : ℕ) (a b : Place) → LiesIn tiles i a → LiesIn tiles j b → Linked a b → IsJoined Link i j
    linked_joined i j a b p q link = elim (cases_eq i j) [
      | inl same ↦ Chain-same (EitherWay Link) i j same
      | inr other ↦ go (join.whole i j other (link_ties i j a b p q link other)) stay
    ]

    joined_from_node : {a b : Place} → AreOneNode connects layout a b → (i j : ℕ) → LiesIn tiles i a → LiesIn tiles j b → IsJoined Link i j
    joined_from_node stay i j p q = Chain-same (EitherWay Link) i j (lies_in_one tiles i j _ are.apart p q)
    joined_from_node (go {a = a} {b = b} link rest) i j p q =
        let lies = are.every b link.there in
        Chain-append (linked_joined i lies.0 a b p lies.1 link) (joined_from_node rest lies.0 j lies.1 q)

    either_ties : (i j : ℕ) → EitherWay Link i j → AreLinkedTiles connects tiles i j
    either_ties i j (inl link) = join.sound i j link
    either_ties i j (inr link) = tied-sym j i (join.sound j i link)

    node_from_joined : {i j : ℕ} → IsJoined Link i j → (a b : Place) → LiesIn tiles i a → LiesIn tiles j b → AreOneNode connects layout a b
    node_from_joined (stay {a = i}) a b p q = within_tile i a b p q
    node_from_joined (go {a = i} {b = k} either rest) a b p q =
        let across = crossing i k (either_ties i k either) in
        Chain-append (within_tile i a across.from p across.in_first) (go across.link (node_from_joined rest across.to b across.in_second q))

    -- the numbers of the classes that the links make are right
    pub numbers_from_labels : (labels : List ℕ) → length labels ≡ length tiles → Divides labels Link → NumbersNodes connects layout tiles labels
    numbers_from_labels labels long divides i j a b p q =
        let i_in = slice_get_within tiles i p.tile p.there in
        let j_in = slice_get_within tiles j q.tile q.there in
        let same = divides i j (omega arith) (omega arith) in
        ((λ e. node_from_joined (same.0 e) a b p q), (λ chain. same.1 (joined_from_node chain i j p q)))
