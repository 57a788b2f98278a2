-- Tiles that have the numbers of their nodes are grouped by nodes.
use Rattle.cell_nodes.proofs.Common.{◌≡◌, ℕ, ◌+◌, ◌<◌, List, length, get_or, Some, inl, inr, sym, ◌∙◌, ap, subst, arith, slice_index, All, cases_lt}
use Rattle.cell_nodes.proofs.Common.{get_or-map, slice_get_within, slice_get-get_or, get_or_from_slice_get, In, Label, RawTech, RegionTile, Place}
use Rattle.cell_nodes.proofs.Common.{IsBefore, Layout, IsMaterial, LiesIn, IsInRegion, AreLayoutTiles, with_region, IsSoundTile, no_tile, tile_at}
use Rattle.cell_nodes.proofs.Common.{NamedNode, AreOneNamedNode, least_of, AreNamedNodes, AreNodeNumbers, numbers_at}
use Rattle.std.proofs.lemmas.List.{get_or_default}
use Rattle.ext_model.specs.GeoCore.Covering.{Covers}
use Rattle.tech_model.proofs.FiniteSets.Chains.{Chain-append}
use Rattle.tech_model.proofs.FiniteSets.Members.{In-get_or}
use Rattle.layout_model.proofs.PlaceLaws.{IsBefore-irreflexive, IsNoLater-antisym}
use Rattle.measures.specs.FloodNodes.Renumbered.{AreRenumbered}
use Rattle.cell_nodes.proofs.NodePlaces.{AreOneNamedNode-sym}

-- the region of a tile in which a place lies
region_here : (tiles : List RegionTile) (i : ℕ) (place : Place) → LiesIn tiles i place → IsInRegion tiles (tile_at tiles i).region place
region_here tiles i place lies = record {
  index = i;
  lies = lies;
  numbered = sym (ap (λ (t : RegionTile). t.region) (get_or_from_slice_get tiles i lies.tile no_tile lies.there));
}

module _ (tiles : List RegionTile) (labels : List ℕ) (groups : List RegionTile) (are : AreRenumbered tiles labels groups) where
  lies_back : (i : ℕ) (place : Place) → LiesIn groups i place → LiesIn tiles i place
  lies_back i place lies =
      let within = slice_get_within groups i lies.tile lies.there in
      let many = are.so_many in
      let inside : i < length tiles = omega (arith, within, many) in
      let is : with_region (tile_at tiles i) (slice_index labels i) ≡ lies.tile = sym (are.each i inside)
      ∙ get_or_from_slice_get groups i lies.tile no_tile lies.there in
      record {
        tile = tile_at tiles i;
        there = slice_get-get_or tiles i no_tile inside;
        plane = lies.plane ∙ sym (ap (λ (t : RegionTile). t.plane) is);
        covers = subst (λ (t : RegionTile). Covers t.area place.square) (sym is) lies.covers;
      }

  -- the number of the tile in which a place of a group lies
  number_back : (k : ℕ) (place : Place) → (h : IsInRegion groups k place) → slice_index labels h.index ≡ k
  number_back k place h =
      let within = slice_get_within groups h.index h.lies.tile h.lies.there in
      let many = are.so_many in
      ap (λ (t : RegionTile). t.region) (sym (are.each h.index (omega (arith, within, many)))
      ∙ get_or_from_slice_get groups h.index h.lies.tile no_tile h.lies.there) ∙ h.numbered

  -- a place lies in the group that its tile's number says
  in_group : (i k : ℕ) (place : Place) → LiesIn tiles i place → slice_index labels i ≡ k → IsInRegion groups k place
  in_group i k place lies is =
      let inside = slice_get_within tiles i lies.tile lies.there in
      let many = are.so_many in
      let same = get_or_from_slice_get tiles i lies.tile no_tile lies.there in
      record {
        index = i;
        lies = record {
          tile = with_region (tile_at tiles i) (slice_index labels i);
          there = slice_get-get_or groups i no_tile (omega (arith, inside, many)) ∙ ap (λ (t : RegionTile). Some t) (are.each i inside);
          plane = lies.plane ∙ sym (ap (λ (t : RegionTile). t.plane) same);
          covers = subst (λ (t : RegionTile). Covers t.area place.square) (sym same) lies.covers;
        };
        numbered = is;
      }

-- the tiles of groups are sound
pub groups_sound : (tiles groups : List RegionTile) (count : ℕ) (nodes : List NamedNode) (numbers : List ℕ) → All (IsSoundTile count) tiles
    → AreNodeNumbers nodes count numbers → AreRenumbered tiles (numbers_at numbers tiles) groups → All (IsSoundTile (length nodes + 1)) groups
groups_sound tiles groups count nodes numbers sound numbered are k d below =
    let many = are.so_many in
    let inside : k < length tiles = omega (arith, below, many) in
    let old = sound k no_tile inside in
    let region = (tile_at tiles k).region in
    let number : slice_index (numbers_at numbers tiles) k ≡ slice_index numbers region =
    get_or-map (λ (t : RegionTile). slice_index numbers t.region) tiles k no_tile 0 inside in
    let small : slice_index (numbers_at numbers tiles) k < length nodes + 1 = elim (numbered.each region old.numbered) [
      | inl is ↦ (let less = is.below in omega (arith, number, less))
      | inr none ↦ (let past = none.1 in omega (arith, number, past))
    ] in
    subst (IsSoundTile (length nodes + 1)) (sym (get_or_default groups k d no_tile below ∙ are.each k inside))
    (record { proper = old.proper; near = old.near; numbered = small })

-- the regions of nodes are regions of the tiles
pub regions_below : (raw : RawTech) (layout : Layout) (labels : List Label) (tiles : List RegionTile) (count : ℕ) (nodes : List NamedNode)
    → All (IsSoundTile count) tiles → AreNamedNodes raw layout labels tiles nodes
    → (k : ℕ) (node : NamedNode) → k < length nodes → All (λ region. region < count) (get_or nodes k node).regions
regions_below raw layout labels tiles count nodes sound named k node below j d less =
    let regions = (get_or nodes k node).regions in
    let used = (named.sound (get_or nodes k node) (In-get_or nodes k node below)).used (get_or regions j d) (In-get_or regions j d less) in
    let lies = used.1.lies in
    let inside = slice_get_within tiles used.1.index lies.tile lies.there in
    let is = get_or_from_slice_get tiles used.1.index lies.tile no_tile lies.there in
    subst (λ (n : ℕ). n < count) (ap (λ (t : RegionTile). t.region) is ∙ used.1.numbered) (sound used.1.index no_tile inside).numbered

module _ (raw : RawTech) (layout : Layout) (labels : List Label) (tiles : List RegionTile) (nodes : List NamedNode)
    (named : AreNamedNodes raw layout labels tiles nodes) where
  earlier_differs : (m n : ℕ) (d : NamedNode) → m < n → n < length nodes → least_of (get_or nodes m d) ≡ least_of (get_or nodes n d) → ⊥
  earlier_differs m n d less below same =
      IsBefore-irreflexive (least_of (get_or nodes m d))
      (subst (λ (p : Place). IsBefore (least_of (get_or nodes m d)) p) (sym same) (named.in_order m n d less below))

  -- a place is of one node alone
  one_node : (m n : ℕ) (d : NamedNode) (place : Place) → m < length nodes → n < length nodes
      → AreOneNamedNode raw layout labels (least_of (get_or nodes m d)) place → AreOneNamedNode raw layout labels (least_of (get_or nodes n d)) place → m ≡ n
  one_node m n d place m_in n_in p q =
      let a = get_or nodes m d in
      let b = get_or nodes n d in
      let to : AreOneNamedNode raw layout labels (least_of a) (least_of b) = Chain-append p (AreOneNamedNode-sym raw layout labels q) in
      let same = IsNoLater-antisym (least_of a) (least_of b) ((named.sound a (In-get_or nodes m d m_in)).least.1 (least_of b) to)
      ((named.sound b (In-get_or nodes n d n_in)).least.1 (least_of a) (AreOneNamedNode-sym raw layout labels to)) in
      elim (cases_lt m n) [
        | inl less ↦ absurd (earlier_differs m n d less n_in same)
        | inr ge ↦ elim (cases_lt n m) [
          | inl more ↦ absurd (earlier_differs n m d more m_in (sym same))
          | inr le ↦ omega (arith, ge, le)
        ]
      ]

  module _ (count : ℕ) (numbers : List ℕ) (groups : List RegionTile) (sound : All (IsSoundTile count) tiles) (numbered : AreNodeNumbers nodes count numbers)
      (are : AreRenumbered tiles (numbers_at numbers tiles) groups) where
    -- a place of a group is of its node
    pub group_in_node : (k : ℕ) (d : NamedNode) (place : Place) → k < length nodes → IsInRegion groups k place
        → AreOneNamedNode raw layout labels (least_of (get_or nodes k d)) place
    group_in_node k d place below h =
        let i = h.index in
        let lies = lies_back tiles (numbers_at numbers tiles) groups are i place h.lies in
        let inside = slice_get_within tiles i lies.tile lies.there in
        let region = (tile_at tiles i).region in
        let number : slice_index numbers region ≡ k = sym (get_or-map (λ (t : RegionTile). slice_index numbers t.region) tiles i no_tile 0 inside)
        ∙ number_back tiles (numbers_at numbers tiles) groups are k place h in
        elim (numbered.each region (sound i no_tile inside).numbered) [
          | inl is ↦
              ((named.sound (get_or nodes k d) (In-get_or nodes k d below)).regions region place (region_here tiles i place lies)).0
              (subst (λ (n : ℕ). In region (get_or nodes n d).regions) number (is.has d))
          | inr none ↦ (let past = none.1 in absurd (omega (arith, past, number, below)))
        ]

    -- and a place of a node lies in its group
    pub node_in_group : (k : ℕ) (d : NamedNode) (place : Place) → AreLayoutTiles layout tiles → k < length nodes → IsMaterial layout place
        → AreOneNamedNode raw layout labels (least_of (get_or nodes k d)) place → IsInRegion groups k place
    node_in_group k d place whole below material chain =
        let at = whole.every place material in
        let i = at.0 in
        let lies = at.1 in
        let inside = slice_get_within tiles i lies.tile lies.there in
        let region = (tile_at tiles i).region in
        let here = region_here tiles i place lies in
        let number = get_or-map (λ (t : RegionTile). slice_index numbers t.region) tiles i no_tile 0 inside in
        let node_of = λ (m : ℕ) (m_in : m < length nodes). (named.sound (get_or nodes m d) (In-get_or nodes m d m_in)).regions region place here in
        elim (numbered.each region (sound i no_tile inside).numbered) [
          | inl is ↦
              in_group tiles (numbers_at numbers tiles) groups are i k place lies
              (number ∙ one_node (slice_index numbers region) k d place is.below below ((node_of (slice_index numbers region) is.below).0 (is.has d)) chain)
          | inr none ↦ absurd (none.0 k d below ((node_of k below).1 chain))
        ]
