-- Labels of tiles that contacts between tiles of one type make are those of the edge-connected sets of one type.
use Rattle.fet_regions.proofs.Common.{◌≡◌, ◌≢◌, ℕ, ◌<◌, ℤ, pos, Bool, true, cond, eqb, List, filter, length, inl, inr, refl, sym, ◌∙◌, ap, subst}
use Rattle.fet_regions.proofs.Common.{arith, slice_get, slice_index, cases_lt, slice_get_within, get_or_from_slice_get, Lists, In-map, In-map_source}
use Rattle.fet_regions.proofs.Common.{In-filter, In-filter_source, In-filter_passes, corner_of, Divides, IsPair, Contact, RawTech, plane_of, Place}
use Rattle.fet_regions.proofs.Common.{Layout, IsMaterial, HasTypesOf, AreOneChannel, LiesIn, AreLayoutTiles, RegionTile, no_tile, tile_at}
use Rattle.fet_regions.proofs.Common.{IsTileContact, one_plane, same_from_test, are_alike, alike_pairs, place_of}
use Rattle.std.proofs.Common.{◌↔◌, ◌<ℤ◌, Some}
use Rattle.finite_sets.specs.Chain.{EitherWay}
use Rattle.finite_sets.specs.Chain.Chain.{stay, go}
use Rattle.geo_core.specs.Covering.{IsProper}
use Rattle.geo_core.proofs.CornerLaws.{corner_covers}
use Rattle.rect_contacts.specs.Contacts.{shared_length}
use Rattle.rect_contacts.proofs.Shared.{shared_length-comm}
use Rattle.layout_model.specs.Links.{AreOneNode}
use Rattle.flood_nodes.specs.steps.LinkedTiles.{AreLinkedTiles, NumbersNodes}
use Rattle.flood_nodes.specs.TileShares.{shared_by}
use Rattle.flood_nodes.proofs.LayoutRegions.{numbers_from_labels}
use Rattle.flood_nodes.proofs.LinkLaws.{contact_meets}
use Rattle.flood_nodes.proofs.ShareLaws.{eqb-comm}

-- Tiles have one label exactly where their places are of one edge-connected set of one type.
abbrev pub AreLabelled : Layout → List RegionTile → List ℕ → Type 0
AreLabelled layout tiles labels =
    (i j : ℕ) (a b : Place) → LiesIn tiles i a → LiesIn tiles j b → (slice_index labels i ≡ slice_index labels j) ↔ AreOneChannel layout a b

module _ (raw : RawTech) (layout : Layout) (tiles : List RegionTile) (are : AreLayoutTiles layout tiles) (typed : HasTypesOf raw layout) where
  pub tile_is : (i : ℕ) (tile : RegionTile) → slice_get tiles i ≡ Some tile → tile_at tiles i ≡ tile
  tile_is i tile there = get_or_from_slice_get tiles i tile no_tile there

  -- the lower left corner of a tile lies in it
  abbrev pub corner_lies : (i : ℕ) (tile : RegionTile) → slice_get tiles i ≡ Some tile → LiesIn tiles i (place_of tile)
  corner_lies i tile there =
      let proper = are.proper i no_tile (slice_get_within tiles i tile there) in
      record {
        tile = tile;
        there = there;
        plane = refl;
        covers = corner_covers tile.area (corner_of tile.area)
            (subst (λ (t : RegionTile). IsProper t.area) (tile_is i tile there) proper) refl refl;
      }

  -- places of tiles have material
  pub lies_material : (i : ℕ) (a : Place) → LiesIn tiles i a → IsMaterial layout a
  lies_material i a lies none =
      let material = are.material i no_tile (slice_get_within tiles i lies.tile lies.there) in
      material (ap (λ (t : RegionTile). t.kind.0) (tile_is i lies.tile lies.there) ∙ sym (are.kinds i a lies) ∙ none)

  -- a tile is on the plane of its type
  pub tile_plane : (i : ℕ) (tile : RegionTile) → slice_get tiles i ≡ Some tile → tile.plane ≡ plane_of raw tile.kind.0
  tile_plane i tile there =
      let lies = corner_lies i tile there in
      sym (ap (plane_of raw) (sym (are.kinds i (place_of tile) lies)) ∙ (typed (place_of tile) (lies_material i (place_of tile) lies)).1)

  module _ (contacts : List Contact) (listed : Lists (IsTileContact tiles) contacts) where
    pair_of : Contact → ℕ × ℕ
    pair_of contact = (contact.first, contact.second)

    -- the two tiles of a pair share an edge, and are of one type
    sound : (i j : ℕ) → IsPair (alike_pairs tiles contacts) i j → AreLinkedTiles eqb tiles i j
    sound i j pair =
        let source = In-map_source (λ (c : Contact). (c.first, c.second)) (i, j) (filter (are_alike tiles) contacts) pair in
        let contact = source.0 in
        let meet = contact_meets tiles contact (listed.2 contact (In-filter_source (are_alike tiles) contact contacts source.1.0)) in
        let passes = In-filter_passes (are_alike tiles) contact contacts source.1.0 in
        let first = tile_is contact.first meet.first meet.first_there in
        let second = tile_is contact.second meet.second meet.second_there in
        subst (λ (p : ℕ × ℕ). AreLinkedTiles eqb tiles p.0 p.1) source.1.1 (record {
          first = meet.first;
          second = meet.second;
          first_there = meet.first_there;
          second_there = meet.second_there;
          connected = subst (λ (t : RegionTile). eqb t.kind.0 meet.second.kind.0 ≡ true) first
              (subst (λ (t : RegionTile). eqb (tile_at tiles contact.first).kind.0 t.kind.0 ≡ true) second passes);
          meet = meet.meet;
        })

    -- of two such tiles in order on one plane
    pair_beside : (i j : ℕ) → i < j → (linked : AreLinkedTiles eqb tiles i j) → linked.first.plane ≡ linked.second.plane
        → pos 0 <ℤ shared_length linked.first.area linked.second.area → IsPair (alike_pairs tiles contacts) i j
    pair_beside i j less linked same share =
        let a = tile_is i linked.first linked.first_there in
        let b = tile_is j linked.second linked.second_there in
        let length = shared_length linked.first.area linked.second.area in
        let contact : Contact = record { first = i; second = j; length = length } in
        let length_is : shared_by (tile_at tiles i) (tile_at tiles j) ≡ length =
        ap (λ (t : RegionTile). shared_by t (tile_at tiles j)) a ∙ ap (λ (t : RegionTile). shared_by linked.first t) b
        ∙ ap (λ (t : Bool). cond t length (pos 0)) (one_plane linked.first.plane linked.second.plane same) in
        let is : IsTileContact tiles contact = record {
          in_order = less;
          in_list = slice_get_within tiles j linked.second linked.second_there;
          length_is = sym length_is;
          not_none = share;
        } in
        let alike : are_alike tiles contact ≡ true =
        subst (λ (t : RegionTile). eqb t.kind.0 (tile_at tiles j).kind.0 ≡ true) (sym a)
        (subst (λ (t : RegionTile). eqb linked.first.kind.0 t.kind.0 ≡ true) (sym b) linked.connected) in
        In-map (λ (c : Contact). (c.first, c.second)) contact (filter (are_alike tiles) contacts)
        (In-filter (are_alike tiles) contact contacts (listed.1 contact is) alike)

    linked-sym : (i j : ℕ) → AreLinkedTiles eqb tiles i j → AreLinkedTiles eqb tiles j i
    linked-sym i j linked = record {
      first = linked.second;
      second = linked.first;
      first_there = linked.second_there;
      second_there = linked.first_there;
      connected = eqb-comm linked.second.kind.0 linked.first.kind.0 ∙ linked.connected;
      meet = elim linked.meet [
        | inl beside ↦ inl (sym beside.0, subst (λ (z : ℤ). pos 0 <ℤ z) (shared_length-comm linked.first.area linked.second.area) beside.1)
        | inr upon ↦ inr ((λ same. upon.0 (sym same)), record { square = upon.1.square; in_first = upon.1.in_second; in_second = upon.1.in_first })
      ];
    }

    -- on two planes tiles are of two types
    one_type_one_plane : (i j : ℕ) (linked : AreLinkedTiles eqb tiles i j) → linked.first.plane ≡ linked.second.plane
    one_type_one_plane i j linked =
        tile_plane i linked.first linked.first_there
        ∙ ap (plane_of raw) (same_from_test linked.first.kind.0 linked.second.kind.0 linked.connected)
        ∙ sym (tile_plane j linked.second linked.second_there)

    whole : (i j : ℕ) → i ≢ j → AreLinkedTiles eqb tiles i j → EitherWay (IsPair (alike_pairs tiles contacts)) i j
    unfolding linked-sym
    whole i j differ linked = elim linked.meet [
      | inr upon ↦ absurd (upon.0 (one_type_one_plane i j linked))
      | inl beside ↦ (elim (cases_lt i j) [
        | inl less ↦ inl (pair_beside i j less linked beside.0 beside.1)
        | inr no_less ↦ inr (pair_beside j i (omega arith) (linked-sym i j linked) (sym beside.0)
            (subst (λ (z : ℤ). pos 0 <ℤ z) (shared_length-comm linked.first.area linked.second.area) beside.1))
      ])
    ]

    -- the labels number what chains of links between places of one type join
    numbered : (labels : List ℕ) → length labels ≡ length tiles → Divides labels (IsPair (alike_pairs tiles contacts)) → NumbersNodes eqb layout tiles labels
    numbered labels long divides =
        numbers_from_labels eqb layout tiles are eqb-comm (λ i d below. one_plane _ _ refl) (IsPair (alike_pairs tiles contacts))
        (record { sound = sound; whole = whole }) labels long divides

    to_node : {a b : Place} → AreOneChannel layout a b → IsMaterial layout a → AreOneNode eqb layout a b
    to_node stay material = stay
    to_node (go {a = a} {b = b} alike rest) material =
        let there : IsMaterial layout b = λ none. material (alike.same ∙ none) in
        go (record { here = material; there = there; near = inl alike.near; connected = one_plane (layout a) (layout b) alike.same }) (to_node rest there)

    to_channel : {a b : Place} → AreOneNode eqb layout a b → AreOneChannel layout a b
    to_channel stay = stay
    to_channel (go {a = a} {b = b} link rest) =
        let same = same_from_test (layout a) (layout b) link.connected in
        let plane : a.plane ≡ b.plane = sym (typed a link.here).1 ∙ ap (plane_of raw) same ∙ (typed b link.there).1 in
        go (record { near = elim link.near [ inl beside ↦ beside | inr stacked ↦ absurd (stacked.0 plane) ]; same = same }) (to_channel rest)

    -- labels of the classes that the contacts between tiles of one type make
    pub labelled : (labels : List ℕ) → length labels ≡ length tiles → Divides labels (IsPair (alike_pairs tiles contacts)) → AreLabelled layout tiles labels
    labelled labels long divides i j a b p q =
        let same = numbered labels long divides i j a b p q in
        ((λ e. to_channel (same.0 e)), (λ chain. same.1 (to_node chain (lies_material i a p))))
