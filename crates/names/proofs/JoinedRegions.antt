-- Labels, the regions that they name, and the regions that global names join.
use Rattle.names.proofs.Common.{◌≡◌, ◌<◌, ℕ, true, Option, Some, None, List, length, get_or, inl, inr, arith, refl, sym, subst, ◌∙◌, ap, slice_index}
use Rattle.names.proofs.Common.{◌↔◌, option_map, false≢true, get_or-map, length-map, none-some, same_Some, EitherWay, Chain-append, Chain-one}
use Rattle.names.proofs.Common.{Chain-same, Chain-weaker, IsJoined, IsPair, Divides, Label, RawTech, connects, IsWellFormed, Place, Layout}
use Rattle.names.proofs.Common.{IsMaterial, AreRegions, IsInRegion, regions_of, RegionTile, is_global, no_tile, Attachment, label_at, region_found}
use Rattle.names.proofs.Common.{text_at, IsNamed, ShareText, AreCounted, key_at, place_of, IsAttachment, found_at}
use Rattle.std.proofs.lemmas.Option.{slice_get_within, get_or_from_slice_get}
use Rattle.geo_core.specs.FiniteSets.Chain.Chain.{stay, go}
use Rattle.layout_model.specs.Links.{AreOneNode}
use Rattle.flood_nodes.proofs.TileEdges.{lies_in_one}
use Rattle.names.specs.Attachments.{AttachesTo, IsFirstToAttach, NamesPlace, HasText}
use Rattle.names.specs.NamedNodes.{ShareGlobal, AreOneNamedNode}
use Rattle.names.proofs.AttachLaws.{suits_material, found_attaches, none_attaches, one_place}

module _ (raw : RawTech) (well : IsWellFormed raw) (layout : Layout) (labels : List Label) (tiles : List RegionTile) (count : ℕ)
    (are : AreRegions (connects raw) layout tiles count) (found : List (Option Attachment))
    (attached : (index : ℕ) → IsAttachment raw tiles (label_at labels index) (found_at found index)) where
  -- a place is of one region
  pub one_region : (r s : ℕ) (place : Place) → IsInRegion tiles r place → IsInRegion tiles s place → r ≡ s
  one_region r s place p q =
      let same = lies_in_one tiles p.index q.index place are.are_tiles.apart p.lies q.lies in
      let tile : p.lies.tile ≡ q.lies.tile = sym (get_or_from_slice_get tiles p.index p.lies.tile no_tile p.lies.there)
      ∙ ap (λ (i : ℕ). get_or tiles i no_tile) same ∙ get_or_from_slice_get tiles q.index q.lies.tile no_tile q.lies.there in
      sym p.numbered ∙ ap (λ (t : RegionTile). t.region) tile ∙ q.numbered

  -- The label at the index attaches to the place, of this region.
  pub record IsFoundAt (index region : ℕ) (place : Place) : Type 0 where
    pub attaches : AttachesTo raw layout (label_at labels index) place
    pub inside : IsInRegion tiles region place

  -- what is found at an index
  found_by : (index region : ℕ) (found_here : Option Attachment) → IsAttachment raw tiles (label_at labels index) found_here
      → option_map (λ (a : Attachment). a.region) found_here ≡ Some region → (place : Place) × IsFoundAt index region place
  found_by index region None is none = absurd (none-some region none)
  found_by index region (Some a) is same =
      let on = found_attaches raw well layout tiles are.are_tiles (label_at labels index) a is in
      (place_of a, record { attaches = on.attaches; inside = subst (λ (r : ℕ). IsInRegion tiles r (place_of a)) (same_Some a.region region same) on.region })

  pub region_is_found : (index region : ℕ) → region_found found index ≡ Some region → (place : Place) × IsFoundAt index region place
  region_is_found index region same = found_by index region (found_at found index) (attached index) same

  attaches_by : (index : ℕ) (found_here : Option Attachment) → IsAttachment raw tiles (label_at labels index) found_here → (place : Place)
      → AttachesTo raw layout (label_at labels index) place
      → (region : ℕ) × ((option_map (λ (a : Attachment). a.region) found_here ≡ Some region) × IsInRegion tiles region place)
  attaches_by index None is place attaches = absurd (none_attaches raw well layout tiles are.are_tiles (label_at labels index) is place attaches)
  attaches_by index (Some a) is place attaches =
      let on = found_attaches raw well layout tiles are.are_tiles (label_at labels index) a is in (
        a.region,
        (
          refl,
          subst (IsInRegion tiles a.region) (one_place raw well layout tiles are.are_tiles (label_at labels index) (place_of a) place on.attaches
              attaches) on.region,
        ),
      )

  -- where a label attaches, its region is found
  pub attaches_is_found : (index : ℕ) (place : Place) → AttachesTo raw layout (label_at labels index) place
      → (region : ℕ) × ((region_found found index ≡ Some region) × IsInRegion tiles region place)
  attaches_is_found index place attaches = attaches_by index (found_at found index) (attached index) place attaches

  -- no label before the index with its text is found, so none attaches
  first_from_found : (index : ℕ) → ((earlier : ℕ) → earlier < index → text_at labels earlier ≡ text_at labels index → region_found found earlier ≡ None)
      → IsFirstToAttach raw layout labels (text_at labels index) index
  first_from_found index none earlier place before same attaches =
      let at = attaches_is_found earlier place attaches in
      none-some at.0 (sym (none earlier before same) ∙ at.1.0)

  module _ (named : List (Option ℕ)) (pairs : List (ℕ × ℕ)) (counted : AreCounted (text_at labels) (region_found found) (length labels) named pairs) where
    -- A label that names a region names a place of it.
    pub record NamesInRegion (index region : ℕ) : Type 0 where
      pub place : Place
      pub names : NamesPlace raw layout labels index place
      pub inside : IsInRegion tiles region place

    -- what is named at an index is a region that the label names
    named_by : (index region : ℕ) (named_here : Option ℕ) → index < length labels → IsNamed (text_at labels) (region_found found) index named_here
        → named_here ≡ Some region → NamesInRegion index region
    named_by index region None below is none = absurd (none-some region none)
    named_by index region (Some r) below is same =
        let at = region_is_found index region (is.0 ∙ same) in
        record {
          place = at.0;
          names = record {
            in_list = below;
            attaches = at.1.attaches;
            counts = elim is.1 [ inl global ↦ inl global | inr first ↦ inr (first_from_found index first) ];
          };
          inside = at.1.inside;
        }

    pub named_region : (index region : ℕ) → index < length labels → key_at named index ≡ Some region → NamesInRegion index region
    named_region index region below same = named_by index region (key_at named index) below (counted.each index below) same

    by_named : (index : ℕ) (place : Place) (names : NamesPlace raw layout labels index place) (region : ℕ) → region_found found index ≡ Some region
        → (named_here : Option ℕ) → IsNamed (text_at labels) (region_found found) index named_here → named_here ≡ Some region
    by_named index place names region here (Some r) is = sym is.0 ∙ here
    by_named index place names region here None (inl none) = absurd (none-some region (sym none ∙ here))
    by_named index place names region here None (inr later) = elim names.counts [
      | inl global ↦ absurd (false≢true (sym later.0 ∙ global))
      | inr first ↦ absurd (later.1.3 (by_earlier (region_found found later.1.0) refl))
    ]
      where
        by_earlier : (found_there : Option ℕ) → region_found found later.1.0 ≡ found_there → region_found found later.1.0 ≡ None
        by_earlier None is = is
        by_earlier (Some r) is = let at = region_is_found later.1.0 r is in
            absurd (elim names.counts [ inl global ↦ false≢true (sym later.0 ∙ global) | inr first ↦ first later.1.0 at.0 later.1.1 later.1.2 at.1.attaches ])

    -- A label that names a place names its region.
    pub record NamesRegion (index : ℕ) (place : Place) : Type 0 where
      pub region : ℕ
      pub named_is : key_at named index ≡ Some region
      pub inside : IsInRegion tiles region place

    pub names_region : (index : ℕ) (place : Place) → NamesPlace raw layout labels index place → NamesRegion index place
    names_region index place names =
        let at = attaches_is_found index place names.attaches in
        record { region = at.0; named_is = by_named index place names at.0 at.1.0 (key_at named index) (counted.each index names.in_list); inside = at.1.1 }

    -- Places of the two regions share a global name.
    pub record RegionsShare (r s : ℕ) : Type 0 where
      pub here : Place
      pub there : Place
      pub in_first : IsInRegion tiles r here
      pub in_second : IsInRegion tiles s there
      pub share : ShareGlobal raw layout labels here there

    -- a label of a global text that is found gives its text to the place
    global_text : (index region : ℕ) (text : List ℕ) → index < length labels → is_global (text_at labels index) ≡ true → text_at labels index ≡ text
        → (at : (place : Place) × IsFoundAt index region place) → HasText raw layout labels text at.0
    global_text index region text below global is at = record {
      index = index;
      is = is;
      names = record { in_list = below; attaches = at.1.attaches; counts = inl global };
    }

    -- regions of which labels of one global text are found share it
    text_shared : (r s : ℕ) → ShareText (text_at labels) (region_found found) (length labels) r s → RegionsShare r s
    text_shared r s share =
        let at = region_is_found share.one r share.here in
        let to = region_is_found share.other s share.there in
        let global : is_global (text_at labels share.other) ≡ true = sym (ap is_global share.same) ∙ share.global in
        record {
          here = at.0;
          there = to.0;
          in_first = at.1.inside;
          in_second = to.1.inside;
          share = record {
            text = text_at labels share.one;
            global = share.global;
            here = global_text share.one r (text_at labels share.one) share.one_below share.global refl at;
            there = global_text share.other s (text_at labels share.one) share.other_below global (sym share.same) to;
          };
        }

    -- and back
    shared_text : (r s : ℕ) → RegionsShare r s → ShareText (text_at labels) (region_found found) (length labels) r s
    shared_text r s share =
        let p = share.share.here in
        let q = share.share.there in
        let at = attaches_is_found p.index share.here p.names.attaches in
        let to = attaches_is_found q.index share.there q.names.attaches in
        record {
          one = p.index;
          other = q.index;
          one_below = p.names.in_list;
          other_below = q.names.in_list;
          same = p.is ∙ sym q.is;
          global = ap is_global p.is ∙ share.share.global;
          here = at.1.0 ∙ ap (λ (k : ℕ). Some k) (one_region at.0 r share.here at.1.1 share.in_first);
          there = to.1.0 ∙ ap (λ (k : ℕ). Some k) (one_region to.0 s share.there to.1.1 share.in_second);
        }

    -- a place with a text has material
    text_material : (text : List ℕ) (place : Place) → HasText raw layout labels text place → IsMaterial layout place
    text_material text place has = suits_material raw layout (label_at labels has.index) place well has.names.attaches.least.0

    -- the number of a region, as it stands in the list
    number_at : (r : ℕ) (a : Place) (p : IsInRegion tiles r a) → slice_index (regions_of tiles) p.index ≡ r
    number_at r a p =
        get_or-map (λ (t : RegionTile). t.region) tiles p.index no_tile 0 (slice_get_within tiles p.index p.lies.tile p.lies.there)
        ∙ ap (λ (t : RegionTile). t.region) (get_or_from_slice_get tiles p.index p.lies.tile no_tile p.lies.there) ∙ p.numbered

    -- the regions of places are below their number
    pub region_below : (r : ℕ) (a : Place) → IsInRegion tiles r a → r < count
    region_below r a p =
        let long = length-map tiles (λ (t : RegionTile). t.region) in
        let within = slice_get_within tiles p.index p.lies.tile p.lies.there in
        let inside : p.index < length (regions_of tiles) = omega (arith, long, within) in
        subst (λ (n : ℕ). n < count) (number_at r a p) (are.numbered.below p.index 0 inside)

    -- A place with material is in a region.
    record SomeRegion (a : Place) : Type 0 where
      region : ℕ
      inside : IsInRegion tiles region a

    some_region : (a : Place) → IsMaterial layout a → SomeRegion a
    some_region a stands =
        let there = are.are_tiles.every a stands in
        record { region = there.1.tile.region; inside = record { index = there.0; lies = there.1; numbered = refl } }

    within_region : (r : ℕ) (a b : Place) → IsInRegion tiles r a → IsInRegion tiles r b → AreOneNamedNode raw layout labels a b
    within_region r a b p q =
        Chain-weaker (λ x y link. inl link) ((are.joined p.index q.index a b p.lies q.lies).0 (number_at r a p ∙ sym (number_at r b q)))

    linked_regions : (r s : ℕ) (a b : Place) → IsInRegion tiles r a → IsInRegion tiles s b → AreOneNode (connects raw) layout a b → r ≡ s
    linked_regions r s a b p q chain = sym (number_at r a p) ∙ (are.joined p.index q.index a b p.lies q.lies).1 chain ∙ number_at s b q

    RegionsShare-sym : (r s : ℕ) → RegionsShare r s → RegionsShare s r
    RegionsShare-sym r s h = record {
      here = h.there;
      there = h.here;
      in_first = h.in_second;
      in_second = h.in_first;
      share = record { text = h.share.text; global = h.share.global; here = h.share.there; there = h.share.here };
    }

    either_share : (r s : ℕ) → EitherWay (IsPair pairs) r s → RegionsShare r s
    either_share r s (inl pair) = text_shared r s (counted.sound r s pair)
    either_share r s (inr pair) = RegionsShare-sym s r (text_shared s r (counted.sound s r pair))

    node_from_joined : {r s : ℕ} → IsJoined (IsPair pairs) r s → (a b : Place) → IsInRegion tiles r a → IsInRegion tiles s b
        → AreOneNamedNode raw layout labels a b
    node_from_joined (stay {a = r}) a b p q = within_region r a b p q
    node_from_joined (go {a = r} {b = t} either rest) a b p q =
        let across = either_share r t either in
        Chain-append (within_region r a across.here p across.in_first) (go (inr across.share) (node_from_joined rest across.there b across.in_second q))

    joined_from_node : {a b : Place} → AreOneNamedNode raw layout labels a b → (r s : ℕ) → IsInRegion tiles r a → IsInRegion tiles s b
        → IsJoined (IsPair pairs) r s
    joined_from_node (stay {a = a}) r s p q = Chain-same (EitherWay (IsPair pairs)) r s (linked_regions r s a a p q stay)
    joined_from_node (go {a = a} {b = b} (inl link) rest) r s p q =
        let there = some_region b link.there in
        let same = linked_regions r there.region a b p there.inside (Chain-one link) in
        Chain-append (Chain-same (EitherWay (IsPair pairs)) r there.region same) (joined_from_node rest there.region s there.inside q)
    joined_from_node (go {a = a} {b = b} (inr share) rest) r s p q =
        let there = some_region b (text_material share.text b share.there) in
        Chain-append (counted.whole r there.region (shared_text r there.region
        (record { here = a; there = b; in_first = p; in_second = there.inside; share = share })))
        (joined_from_node rest there.region s there.inside q)

    -- classes of regions that share global names are the nodes
    pub nodes_from_classes : (classes : List ℕ) → length classes ≡ count → Divides classes (IsPair pairs) → (r s : ℕ) (a b : Place)
        → IsInRegion tiles r a → IsInRegion tiles s b → (slice_index classes r ≡ slice_index classes s) ↔ AreOneNamedNode raw layout labels a b
    nodes_from_classes classes long divides r s a b p q =
        let r_in = region_below r a p in
        let s_in = region_below s b q in
        let same = divides r s (omega (arith, long, r_in)) (omega (arith, long, s_in)) in
        ((λ e. node_from_joined (same.0 e) a b p q), (λ chain. same.1 (joined_from_node chain r s p q)))

    -- what is in one node with material has material
    pub node_material : {a b : Place} → AreOneNamedNode raw layout labels a b → IsMaterial layout a → IsMaterial layout b
    node_material stay stands = stands
    node_material (go (inl link) rest) stands = node_material rest link.there
    node_material (go {b = b} (inr share) rest) stands = node_material rest (text_material share.text b share.there)
