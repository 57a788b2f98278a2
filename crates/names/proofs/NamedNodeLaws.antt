-- The nodes of classes of regions are the nodes of the layout, with their names.
use Rattle.names.proofs.Common.{◌≡◌, ◌≢◌, ◌<◌, ℕ, Option, Some, None, List, [], ◌∷◌, length, get_or, inl, inr, arith, refl, sym, subst, ◌∙◌, ap}
use Rattle.names.proofs.Common.{slice_index, ◌↔◌, AllPairs, Less, Equal, tied_itself, get_or-map, length-map, none-some, same_Some, In, Chain-same}
use Rattle.names.proofs.Common.{In-get_or, In-index, corner_of, corner_covered, IsPair, Divides, Label, RawTech, connects, IsWellFormed, Place}
use Rattle.names.proofs.Common.{IsBefore, IsNoLater, Layout, IsMaterial, AreRegions, IsInRegion, regions_of, RegionTile, name_cmp, name_cmp_total}
use Rattle.names.proofs.Common.{no_tile, Attachment, NamedNode, label_at, AreTextsOf, AreUnattached, region_found, text_at, AreCounted, corner_place}
use Rattle.names.proofs.Common.{class_of, IsFirstTile, AreFirstTiles, key_at, class_in, region_key, label_key, IsNodeOn, AreNodesOf, AreNamedNodes}
use Rattle.names.proofs.Common.{IsAttachment, found_at}
use Rattle.geo_core.specs.FiniteSets.Chain.Chain.{stay}
use Rattle.geo_core.specs.FiniteSets.Lists.{Distinct, Lists}
use Rattle.geo_core.proofs.FiniteSets.Distincts.{Distinct-from_places}
use Rattle.names.specs.Attachments.{NamesPlace, IsUnattached}
use Rattle.names.specs.GeneratedNames.{generated_name}
use Rattle.names.specs.steps.Groups.{IsGroup, AreNodeNames}
use Rattle.names.specs.NamedNodes.{AreOneNamedNode, IsTextIn, IsNameOf, least_of, IsNamedNode}
use Rattle.names.proofs.AttachLaws.{lies_on, tile_among, tile_proper, corner_first}
use Rattle.names.proofs.JoinedRegions.{named_region, names_region, nodes_from_classes, node_material, region_below}
use Rattle.names.proofs.PlaceOrders.{IsNoLater-trans}
use Rattle.names.proofs.TextLists.{texts_by}

-- names in strict order differ
distinct_in_order : (names : List (List ℕ)) → AllPairs (λ a b. name_cmp a b ≡ Less) names → Distinct names
distinct_in_order names in_order = Distinct-from_places names (λ i j d less below same.
    let before = in_order i j d less below in
    let tied : name_cmp (get_or names i d) (get_or names j d) ≡ Equal = ap (name_cmp (get_or names i d)) (sym same)
    ∙ tied_itself name_cmp_total (get_or names i d) in
    let apart : Less ≡ Equal = sym before ∙ tied in
    absurd (cc))

-- the least place of a node with this first tile
least_is : (tile : RegionTile) (node : NamedNode) → node.plane ≡ tile.plane → node.least ≡ corner_of tile.area → corner_place tile ≡ least_of node
least_is tile node plane least = rw (sym plane, sym least) refl

module _ (raw : RawTech) (well : IsWellFormed raw) (layout : Layout) (labels : List Label) (tiles : List RegionTile) (count : ℕ)
    (are : AreRegions (connects raw) layout tiles count) (found : List (Option Attachment))
    (attached : (index : ℕ) → IsAttachment raw tiles (label_at labels index) (found_at found index)) (named : List (Option ℕ)) (pairs : List (ℕ × ℕ))
    (counted : AreCounted (text_at labels) (region_found found) (length labels) named pairs) where
  -- the labels that name nothing are those that name no region
  pub unattached_are : (texts : List (List ℕ)) → AreTextsOf labels (λ index. (index < length labels) × (key_at named index ≡ None)) texts
      → AreUnattached raw layout labels texts
  unattached_are texts left = texts_by labels (λ index. (index < length labels) × (key_at named index ≡ None)) (IsUnattached raw layout labels) texts
      (λ k none. (
        none.0,
        (λ place names.
            let at = names_region raw well layout labels tiles count are found attached named pairs counted k place names in
            none-some at.region (sym none.1 ∙ at.named_is)),
      ))
      (λ k unattached. (unattached.0, by_key k unattached.0 unattached.1 (key_at named k) refl)) left
    where
      by_key : (k : ℕ) → k < length labels → ((place : Place) → NamesPlace raw layout labels k place → ⊥) → (key : Option ℕ) → key_at named k ≡ key
          → key_at named k ≡ None
      by_key k below nowhere None is = is
      by_key k below nowhere (Some region) is =
          let at = named_region raw well layout labels tiles count are found attached named pairs counted k region below is in
          absurd (nowhere at.place at.names)

  module _ (classes : List ℕ) (long : length classes ≡ count) (divides : Divides classes (IsPair pairs)) where
    -- classes are nodes
    law : (r s : ℕ) (a b : Place) → IsInRegion tiles r a → IsInRegion tiles s b
        → (slice_index classes r ≡ slice_index classes s) ↔ AreOneNamedNode raw layout labels a b
    law = nodes_from_classes raw well layout labels tiles count are found attached named pairs counted classes long divides

    -- the corner of a tile lies in its region
    corner_inside : (tile : RegionTile) → In tile tiles → IsInRegion tiles tile.region (corner_place tile)
    corner_inside tile among =
        let on = lies_on raw well layout tiles are.are_tiles tile (corner_place tile) among refl
        (corner_covered tile.area (tile_proper raw well layout tiles are.are_tiles tile among)) in
        record { index = on.index; lies = on.lies; numbered = ap (λ (t : RegionTile). t.region) on.is }

    -- the type at the corner of a tile is the tile's
    corner_kind : (tile : RegionTile) → In tile tiles → layout (corner_place tile) ≡ tile.kind.0
    corner_kind tile among =
        let on = lies_on raw well layout tiles are.are_tiles tile (corner_place tile) among refl
        (corner_covered tile.area (tile_proper raw well layout tiles are.are_tiles tile among)) in
        are.are_tiles.kinds on.index (corner_place tile) on.lies ∙ ap (λ (t : RegionTile). t.kind.0) on.is

    -- which is not space
    corner_material : (tile : RegionTile) → In tile tiles → IsMaterial layout (corner_place tile)
    corner_material tile among space =
        let at = In-index tile tiles among in
        let material : tile.kind.0 ≢ 0 = subst (λ (t : RegionTile). t.kind.0 ≢ 0) (at.1.1 no_tile) (are.are_tiles.material at.0 no_tile at.1.0) in
        material (sym (corner_kind tile among) ∙ space)

    -- A place with material lies in a tile.
    record SomeTile (place : Place) : Type 0 where
      tile : RegionTile
      among : In tile tiles
      inside : IsInRegion tiles tile.region place
      no_later : IsNoLater (corner_place tile) place

    some_tile : (place : Place) → IsMaterial layout place → SomeTile place
    some_tile place stands =
        let there = are.are_tiles.every place stands in
        let tile = there.1.tile in
        record {
          tile = tile;
          among = tile_among raw well layout tiles are.are_tiles there.0 tile there.1.there;
          inside = record { index = there.0; lies = there.1; numbered = refl };
          no_later = corner_first tile.area tile.plane place.plane place.square (sym there.1.plane) there.1.covers;
        }

    -- each region has a place
    region_used : (region : ℕ) → region < count → (place : Place) × IsInRegion tiles region place
    region_used region below =
        let used = are.numbered.used region below in
        let i = used.0 in
        let within : i < length (regions_of tiles) = used.1.0.0 in
        let many = length-map tiles (λ (t : RegionTile). t.region) in
        let inside : i < length tiles = omega (arith, within, many) in
        let tile = get_or tiles i no_tile in
        let number : tile.region ≡ region = sym (get_or-map (λ (t : RegionTile). t.region) tiles i no_tile 0 inside) ∙ used.1.0.1 in
        (corner_place tile, subst (λ (r : ℕ). IsInRegion tiles r (corner_place tile)) number (corner_inside tile (In-get_or tiles i no_tile inside)))

    module _ (tile : RegionTile) (first : IsFirstTile classes (λ t. In t tiles) tile) (regions indices : List ℕ)
        (are_regions : IsGroup (region_key classes) (length classes) (class_of classes tile) regions)
        (are_indices : IsGroup (label_key classes named) (length named) (class_of classes tile) indices) where
      -- no place of the node is earlier
      least_place : (place : Place) → AreOneNamedNode raw layout labels (corner_place tile) place → IsNoLater (corner_place tile) place
      least_place place chain =
          let stands = node_material raw well layout labels tiles count are found attached named pairs counted chain (corner_material tile first.among) in
          let there = some_tile place stands in
          let same : slice_index classes tile.region ≡ slice_index classes there.tile.region =
          (law tile.region there.tile.region (corner_place tile) place (corner_inside tile first.among) there.inside).1 chain in
          IsNoLater-trans (corner_place tile) (corner_place there.tile) place (first.least there.tile there.among (sym same)) there.no_later

      -- the regions of the class are those of the node
      regions_there : (region : ℕ) (place : Place) → IsInRegion tiles region place → In region regions
          → AreOneNamedNode raw layout labels (corner_place tile) place
      regions_there region place inside among =
          let key = (are_regions.sound region among).1 in
          (law tile.region region (corner_place tile) place (corner_inside tile first.among) inside).0
          (sym (same_Some (slice_index classes region) (class_of classes tile) key))

      regions_back : (region : ℕ) (place : Place) → IsInRegion tiles region place → AreOneNamedNode raw layout labels (corner_place tile) place
          → In region regions
      regions_back region place inside chain =
          let below = region_below raw well layout labels tiles count are found attached named pairs counted region place inside in
          let same : slice_index classes tile.region ≡ slice_index classes region =
          (law tile.region region (corner_place tile) place (corner_inside tile first.among) inside).1 chain in
          are_regions.whole region (omega (arith, long, below)) (ap (λ (k : ℕ). Some k) (sym same))

      -- the text of a label of the class is one of a place of the node
      class_by : (index : ℕ) (key : Option ℕ) → key_at named index ≡ key → class_in classes key ≡ Some (class_of classes tile)
          → (region : ℕ) × ((key_at named index ≡ Some region) × (slice_index classes region ≡ class_of classes tile))
      class_by index None is none = absurd (none-some (class_of classes tile) none)
      class_by index (Some region) is same = (region, (is, same_Some (slice_index classes region) (class_of classes tile) same))

      text_there : (index : ℕ) → In index indices → IsTextIn raw layout labels (AreOneNamedNode raw layout labels (corner_place tile)) (text_at labels index)
      text_there index among =
          let is = are_indices.sound index among in
          let below = is.0 in
          let many = counted.so_many in
          let key = class_by index (key_at named index) refl is.1 in
          let names = named_region raw well layout labels tiles count are found attached named pairs counted index key.0 (omega (arith, many, below)) key.1.0 in
          record {
            place = names.place;
            inside = (law tile.region key.0 (corner_place tile) names.place (corner_inside tile first.among) names.inside).0 (sym key.1.1);
            text = record { index = index; is = refl; names = names.names };
          }

      -- and back
      text_back : (name : List ℕ) → IsTextIn raw layout labels (AreOneNamedNode raw layout labels (corner_place tile)) name
          → (index : ℕ) × (In index indices × (text_at labels index ≡ name))
      text_back name text =
          let index = text.text.index in
          let names = names_region raw well layout labels tiles count are found attached named pairs counted index text.place text.text.names in
          let same : slice_index classes tile.region ≡ slice_index classes names.region =
          (law tile.region names.region (corner_place tile) text.place (corner_inside tile first.among) names.inside).1 text.inside in
          let below = text.text.names.in_list in
          let many = counted.so_many in (
            index,
            (
              are_indices.whole index (omega (arith, many, below)) (ap (class_in classes) names.named_is ∙ ap (λ (k : ℕ). Some k) (sym same)),
              text.text.is,
            ),
          )

      -- the names of the node
      names_by : (given : List ℕ) → indices ≡ given → (names : List (List ℕ)) → AreNodeNames raw labels tile given names
          → Lists (IsNameOf raw layout labels (corner_place tile)) names × AllPairs (λ a b. name_cmp a b ≡ Less) names
      names_by [] none names is =
          let generated = generated_name raw tile.kind.0 (corner_of tile.area) in
          let here : generated_name raw (layout (corner_place tile)) (corner_of tile.area) ≡ generated =
          ap (λ (k : ℕ). generated_name raw k (corner_of tile.area)) (corner_kind tile first.among) in
          let no_text : (name : List ℕ) → IsTextIn raw layout labels (AreOneNamedNode raw layout labels (corner_place tile)) name → ⊥ =
          λ name text. (let back = text_back name text in subst (In back.0) none back.1.0) in
          subst (λ (v : List (List ℕ)). Lists (IsNameOf raw layout labels (corner_place tile)) v × AllPairs (λ a b. name_cmp a b ≡ Less) v) (sym is) (
            (
              ((λ absent. absent), tt),
              (λ name its. elim its [ inl text ↦ absurd (no_text name text) | inr alone ↦ inl (sym (alone.1 ∙ here)) ]),
              (λ name among. elim among [ inl same ↦ inr (no_text, sym same ∙ sym here) | inr absent ↦ absurd absent ]),
            ),
            (λ i j d less below. absurd (omega arith)),
          )
      names_by (index ∷ rest) some names is = (
        (
          distinct_in_order names is.in_order,
          (λ name its. elim its [
            | inl text ↦ (let back = text_back name text in
                subst (λ (n : List ℕ). In n names) back.1.1 (is.whole back.0 (subst (In back.0) some back.1.0)))
            | inr alone ↦ absurd (alone.0 (text_at labels index) (text_there index (subst (In index) (sym some) (inl refl))))
          ]),
          (λ name among. let source = is.sound name among in
              inl (subst (IsTextIn raw layout labels (AreOneNamedNode raw layout labels (corner_place tile))) source.2
              (text_there source.0 (subst (In source.0) (sym some) source.1)))),
        ),
        is.in_order,
      )

      -- the node of the class
      pub node_of_class : (node : NamedNode) → IsNodeOn raw labels tile regions indices node → IsNamedNode raw layout labels tiles node
      node_of_class node on =
          let names = names_by indices refl node.names on.names_are in
          let whole : record { regions = regions; names = node.names; plane = tile.plane; least = corner_of tile.area; kind = tile.kind } ≡ node =
          rw (sym on.regions_are, sym on.plane, sym on.least, sym on.kind) refl in
          subst (IsNamedNode raw layout labels tiles) whole (record {
            material = corner_material tile first.among;
            least = (stay, least_place);
            kind = sym (corner_kind tile first.among);
            regions = λ region place inside. (regions_there region place inside, regions_back region place inside);
            used = λ region among. let below = (are_regions.sound region among).0 in region_used region (omega (arith, long, below));
            regions_rise = are_regions.rise;
            names = names.0;
            names_in_order = names.1;
          })

    -- the nodes of all classes
    pub named_nodes_are : (firsts : List RegionTile) (nodes : List NamedNode) → AreFirstTiles classes (λ tile. In tile tiles) firsts
        → AreNodesOf raw labels classes named firsts nodes → AreNamedNodes raw layout labels tiles nodes
    named_nodes_are firsts nodes firsts_are nodes_are = record {
      sound = λ node among.
          let at = In-index node nodes among in
          let many = nodes_are.one_each in
          let below : at.0 < length firsts = (let less = at.1.0 in omega (arith, many, less)) in
          let tile = get_or firsts at.0 no_tile in
          let of = nodes_are.each at.0 no_tile node below in
          let first = firsts_are.sound tile (In-get_or firsts at.0 no_tile below) in
          node_of_class tile first of.regions of.indices of.are_regions of.are_indices node
          (subst (IsNodeOn raw labels tile of.regions of.indices) (at.1.1 node) of.node_is);
      whole = λ place stands.
          let there = some_tile place stands in
          let first = firsts_are.whole there.tile there.among in
          let at = In-index first.0 firsts first.1 in
          let below = at.1.0 in
          let many = nodes_are.one_each in
          let is = firsts_are.sound first.0 first.1 in
          let seed : NamedNode = record { regions = []; names = []; plane = 0; least = place.square; kind = no_tile.kind } in
          let node = get_or nodes at.0 seed in
          let of = nodes_are.each at.0 no_tile seed below in
          let on : IsNodeOn raw labels first.0 of.regions of.indices node = subst (λ (t : RegionTile). IsNodeOn raw labels t of.regions of.indices node)
          (at.1.1 no_tile) of.node_is in
          let chain = (law first.0.region there.tile.region (corner_place first.0) place (corner_inside first.0 is.among) there.inside).0 first.2 in
          let here = least_is first.0 node on.plane on.least in
          (node, In-get_or nodes at.0 seed (omega (arith, many, below)), subst (λ (p : Place). AreOneNamedNode raw layout labels p place) here chain);
      in_order = λ i j d less below.
          let many = nodes_are.one_each in
          let j_in : j < length firsts = omega (arith, many, below) in
          let i_in : i < length firsts = omega (arith, many, below, less) in
          let one = get_or firsts i no_tile in
          let other = get_or firsts j no_tile in
          let order = firsts_are.in_order i j no_tile less j_in in
          let of_one = nodes_are.each i no_tile d i_in in
          let of_other = nodes_are.each j no_tile d j_in in
          let here = least_is one (get_or nodes i d) of_one.node_is.plane of_one.node_is.least in
          let there = least_is other (get_or nodes j d) of_other.node_is.plane of_other.node_is.least in
          let is_one = firsts_are.sound one (In-get_or firsts i no_tile i_in) in
          let is_other = firsts_are.sound other (In-get_or firsts j no_tile j_in) in
          let before : IsBefore (corner_place one) (corner_place other) = elim order.0 [
            | inl same ↦ absurd (order.1 ((law one.region other.region (corner_place one) (corner_place other) (corner_inside one is_one.among)
                (corner_inside other is_other.among)).1 (Chain-same _ (corner_place one) (corner_place other) same)))
            | inr before ↦ before
          ] in
          subst (λ (p : Place). IsBefore p (least_of (get_or nodes j d))) here (subst (IsBefore (corner_place one)) there before);
    }
