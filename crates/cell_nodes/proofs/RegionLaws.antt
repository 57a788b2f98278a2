-- Each region is of the node that its number says.
use Rattle.cell_nodes.proofs.Common.{◌<◌, ℕ, List, length, get_or, inl, inr, refl, sym, ◌∙◌, subst, arith, slice_index, All, get_or-map, length-map}
use Rattle.cell_nodes.proofs.Common.{slice_get_within, slice_get-get_or, get_or_from_slice_get, corner_of, corner_covers, In, Label, RawTech}
use Rattle.cell_nodes.proofs.Common.{connects, RegionTile, Layout, IsMaterial, Place, LiesIn, IsInRegion, AreRegions, IsSoundTile, no_tile, tile_at}
use Rattle.cell_nodes.proofs.Common.{NamedNode, AreOneNamedNode, least_of, AreNamedNodes, AreNodeNumbers}
use Rattle.tech_model.proofs.FiniteSets.Members.{In-get_or, In-index}

module _ (raw : RawTech) (layout : Layout) (labels : List Label) (tiles : List RegionTile) (count : ℕ) (nodes : List NamedNode) (numbers : List ℕ)
    (regions : AreRegions (connects raw) layout tiles count) (named : AreNamedNodes raw layout labels tiles nodes)
    (numbered : AreNodeNumbers nodes count numbers) where
  -- a region has a place, which has material
  place_of : (region : ℕ) → region < count → (place : Place) × (IsInRegion tiles region place × IsMaterial layout place)
  place_of region below =
      let used = regions.numbered.used region below in
      let i = used.0 in
      let within = used.1.0.0 in
      let many = length-map tiles (λ (t : RegionTile). t.region) in
      let inside : i < length tiles = omega (arith, within, many) in
      let tile = tile_at tiles i in
      let place : Place = record { plane = tile.plane; square = corner_of tile.area } in
      let lies : LiesIn tiles i place = record {
        tile = tile;
        there = slice_get-get_or tiles i no_tile inside;
        plane = refl;
        covers = corner_covers tile.area (corner_of tile.area) (regions.are_tiles.proper i no_tile inside) refl refl;
      } in (
        place,
        (
          record { index = i; lies = lies; numbered = sym (get_or-map (λ (t : RegionTile). t.region) tiles i no_tile 0 inside) ∙ used.1.0.1 },
          (λ space. regions.are_tiles.material i no_tile inside (sym (regions.are_tiles.kinds i place lies) ∙ space)),
        ),
      )

  -- each region has the number of a node
  pub node_number : (region : ℕ) → region < count → slice_index numbers region < length nodes
  node_number region below = elim (numbered.each region below) [
    | inl is ↦ is.below
    | inr none ↦
        (let at = place_of region below in
        let found = named.whole at.0 at.1.1 in
        let x = In-index found.0 nodes found.1 in
        absurd (none.0 x.0 found.0 x.1.0 (subst (λ (n : NamedNode). In region n.regions) (sym (x.1.1 found.0))
        (((named.sound found.0 found.1).regions region at.0 at.1.0).1 found.2))))
  ]

  -- a region with a place is one of them
  pub region_below : All (IsSoundTile count) tiles → (region : ℕ) (place : Place) → IsInRegion tiles region place → region < count
  region_below sound region place inside =
      let within = slice_get_within tiles inside.index inside.lies.tile inside.lies.there in
      let is = get_or_from_slice_get tiles inside.index inside.lies.tile no_tile inside.lies.there in
      subst (λ (r : ℕ). r < count) inside.numbered (subst (λ (t : RegionTile). t.region < count) is (sound inside.index no_tile within).numbered)

  -- and its places are that node's
  pub node_places : All (IsSoundTile count) tiles → (region : ℕ) (place : Place) (d : NamedNode) → IsInRegion tiles region place
      → AreOneNamedNode raw layout labels (least_of (get_or nodes (slice_index numbers region) d)) place
  node_places sound region place d inside =
      let below = region_below sound region place inside in
      let number = node_number region below in
      elim (numbered.each region below) [
        | inl has ↦ ((named.sound (get_or nodes (slice_index numbers region) d) (In-get_or nodes (slice_index numbers region) d number)).regions region place
            inside).0 (has.has d)
        | inr none ↦ (let past = none.1 in absurd (omega (arith, past, number)))
      ]
