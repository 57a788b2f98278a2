-- Tiles keep their places when they get numbers.
use Rattle.flood_nodes.proofs.Common.{◌≡◌, ◌≢◌, ℕ, ◌<◌, Bool, ◌&&◌, eqb, List, length, get_or, Some, refl, sym, ◌∙◌, ap, subst, arith, slice_index}
use Rattle.flood_nodes.proofs.Common.{All, list_any, and_parts, get_or-map, length-map, slice_get_within, slice_get-get_or, get_or_from_slice_get}
use Rattle.flood_nodes.proofs.Common.{IsNear, Covers, IsProper, In, Lists, Lists-iff, In-index, In-get_or, Divides, IsPair, Contact, RawTech}
use Rattle.flood_nodes.proofs.Common.{RegionTile, Place, Layout, LiesIn, LieApart, AreLayoutTiles, AreRegions, JoinTiles, NumbersNodes, with_region}
use Rattle.flood_nodes.proofs.Common.{AreRenumbered, AreTyped, AreSpread, no_tile, tile_at, shared_by, IsTileContact}
use Rattle.std.specs.Prelude.{◌↔◌}
use Rattle.std.proofs.lemmas.List.{get_or_default, ext_get_or}
use Rattle.geo_core.proofs.FiniteSets.Distincts.{Distinct-places, Distinct-from_places}
use Rattle.geo_core.proofs.FiniteSets.Searches.{list_any-source, list_any-passes}
use Rattle.partition.specs.Marks.{IsNumbered}
use Rattle.tech_model.specs.Types.{connects}
use Rattle.tech_model.proofs.TypeLaws.{connects_back, connects_self}
use Rattle.layout_model.specs.Links.{AreOneNode}
use Rattle.layout_model.specs.RegionTiles.{regions_of}
use Rattle.flood_nodes.specs.SoundTiles.{IsSoundTile}
use Rattle.flood_nodes.specs.TileShares.{is_contact, AreTileContacts}
use Rattle.flood_nodes.proofs.LayoutRegions.{numbers_from_labels}
use Rattle.flood_nodes.proofs.ShareLaws.{one_plane}
use Rattle.flood_nodes.proofs.StackLaws.{same_from_test}

module _ (tiles : List RegionTile) (labels : List ℕ) (numbered : List RegionTile) (are : AreRenumbered tiles labels numbered) (long : length labels ≡ length
    tiles) where
  -- what holds of a tile but for its number
  carried : (P : RegionTile → Type 0) → ((t : RegionTile) (r : ℕ) → P t → P (with_region t r)) → All P tiles → All P numbered
  carried P keeps all = λ k d below.
      let many = are.so_many in
      let inside : k < length tiles = omega (arith, below, many) in
      subst P (sym (get_or_default numbered k d no_tile below ∙ are.each k inside)) (keeps (tile_at tiles k) (slice_index labels k) (all k no_tile inside))

  lies_back : (i : ℕ) (place : Place) → LiesIn numbered i place → LiesIn tiles i place
  lies_back i place lies =
      let within = slice_get_within numbered i lies.tile lies.there in
      let many = are.so_many in
      let inside : i < length tiles = omega (arith, within, many) in
      let is : with_region (tile_at tiles i) (slice_index labels i) ≡ lies.tile = sym (are.each i inside)
      ∙ get_or_from_slice_get numbered i lies.tile no_tile lies.there in
      record {
        tile = tile_at tiles i;
        there = slice_get-get_or tiles i no_tile inside;
        plane = lies.plane ∙ sym (ap (λ (t : RegionTile). t.plane) is);
        covers = subst (λ (t : RegionTile). Covers t.area place.square) (sym is) lies.covers;
      }

  lies_on : (i : ℕ) (place : Place) → LiesIn tiles i place → LiesIn numbered i place
  lies_on i place lies =
      let inside = slice_get_within tiles i lies.tile lies.there in
      let many = are.so_many in
      let is = get_or_from_slice_get tiles i lies.tile no_tile lies.there in
      record {
        tile = with_region (tile_at tiles i) (slice_index labels i);
        there = slice_get-get_or numbered i no_tile (omega (arith, inside, many)) ∙ ap (λ (t : RegionTile). Some t) (are.each i inside);
        plane = lies.plane ∙ sym (ap (λ (t : RegionTile). t.plane) is);
        covers = subst (λ (t : RegionTile). Covers t.area place.square) (sym is) lies.covers;
      }

  kind_is : (i : ℕ) (place : Place) → (lies : LiesIn numbered i place) → (tile_at tiles i).kind.0 ≡ lies.tile.kind.0
  kind_is i place lies =
      let within = slice_get_within numbered i lies.tile lies.there in
      let many = are.so_many in
      ap (λ (t : RegionTile). t.kind.0) (sym (are.each i (omega (arith, within, many))) ∙ get_or_from_slice_get numbered i lies.tile no_tile lies.there)

  pub numbered_tiles : (layout : Layout) → AreLayoutTiles layout tiles → AreLayoutTiles layout numbered
  numbered_tiles layout old = record {
    proper = carried (λ t. IsProper t.area) (λ t r h. h) old.proper;
    near = carried (λ t. IsNear t.area) (λ t r h. h) old.near;
    material = carried (λ t. t.kind.0 ≢ 0) (λ t r h. h) old.material;
    apart = λ i j d less below.
        let many = are.so_many in
        let last : j < length tiles = omega (arith, below, many) in
        subst (λ (a : RegionTile). LieApart a (get_or numbered j d)) (sym (get_or_default numbered i d no_tile (omega (arith, less, below))
        ∙ are.each i (omega (arith, less, last))))
        (subst (λ (b : RegionTile). LieApart (with_region (tile_at tiles i) (slice_index labels i)) b) (sym (get_or_default numbered j d no_tile below
        ∙ are.each j last))
        (old.apart i j no_tile less last));
    kinds = λ i place lies. let back = lies_back i place lies in
        old.kinds i place back ∙ sym (ap (λ (t : RegionTile). t.kind.0) (get_or_from_slice_get tiles i back.tile no_tile back.there)) ∙ kind_is i place lies;
    every = λ place material. let there = old.every place material in (there.0, lies_on there.0 place there.1);
  }

  numbers_are : regions_of numbered ≡ labels
  numbers_are = ext_get_or 0 (regions_of numbered) labels (let many = are.so_many in let so = length-map numbered (λ (t : RegionTile). t.region) in
      omega (arith, many, so, long))
      (λ i below. let many = are.so_many in let so = length-map numbered (λ (t : RegionTile). t.region) in
      let inside : i < length tiles = omega (arith, below, many, so) in
      get_or-map (λ (t : RegionTile). t.region) numbered i no_tile 0 (omega (arith, inside, many)) ∙ ap (λ (t : RegionTile). t.region) (are.each i inside))

  numbered_regions : (connects : ℕ → ℕ → Bool) (layout : Layout) (count : ℕ) → AreLayoutTiles layout tiles → NumbersNodes connects layout tiles labels
      → IsNumbered labels count
      → AreRegions connects layout numbered count
  numbered_regions connects layout count old joined counted = record {
    are_tiles = numbered_tiles layout old;
    joined = λ i j a b p q. subst (λ (v : List ℕ). (slice_index v i ≡ slice_index v j) ↔ AreOneNode connects layout a b) (sym numbers_are)
        (joined i j a b (lies_back i a p) (lies_back j b q));
    numbered = subst (λ (v : List ℕ). IsNumbered v count) (sym numbers_are) counted;
  }

  share_is : (i j : ℕ) → i < length tiles → j < length tiles → shared_by (tile_at numbered i) (tile_at numbered j) ≡ shared_by (tile_at tiles i) (tile_at
      tiles j)
  share_is i j p q = ap (λ (t : RegionTile). shared_by t (tile_at numbered j)) (are.each i p)
      ∙ ap (λ (t : RegionTile). shared_by (tile_at tiles i) t) (are.each j q)

  pub numbered_contacts : (contacts : List Contact) → Lists (IsTileContact tiles) contacts → Lists (IsTileContact numbered) contacts
  numbered_contacts contacts listed = Lists-iff (IsTileContact tiles) (IsTileContact numbered) contacts
      (λ c is. let order = is.in_order in let last = is.in_list in let many = are.so_many in record {
        in_order = order;
        in_list = omega (arith, last, many);
        length_is = is.length_is ∙ sym (share_is c.first c.second (omega (arith, order, last)) last);
        not_none = is.not_none;
      })
      (λ c is. let order = is.in_order in let many = are.so_many in let end = is.in_list in let last : c.second < length tiles = omega (arith, end, many) in
      record {
        in_order = order;
        in_list = last;
        length_is = is.length_is ∙ share_is c.first c.second (omega (arith, order, last)) last;
        not_none = is.not_none;
      })
      listed

-- the numbers of the classes that the links make are the regions
pub regions_from_classes : (raw : RawTech) (layout : Layout) (tiles numbered : List RegionTile) (labels : List ℕ) (count : ℕ) (links : List (ℕ × ℕ))
    → AreLayoutTiles layout tiles → AreTyped raw tiles → JoinTiles (connects raw) tiles (IsPair links) → length labels ≡ length tiles
    → Divides labels (IsPair links)
    → IsNumbered labels count → AreRenumbered tiles labels numbered → AreRegions (connects raw) layout numbered count
regions_from_classes raw layout tiles numbered labels count links are typed join long divides counted renumbered =
    numbered_regions tiles labels numbered renumbered long (connects raw) layout count are
    (numbers_from_labels (connects raw) layout tiles are (connects_back raw) (λ k d below. connects_self raw (get_or tiles k d).kind.0 (typed k d below).0)
    (IsPair links) join labels long divides)
    counted

-- tiles that got numbers of classes are sound
pub renumbered_sound : (tiles numbered : List RegionTile) (labels : List ℕ) (count : ℕ) → AreSpread tiles → length labels ≡ length tiles
    → IsNumbered labels count → AreRenumbered tiles labels numbered → All (IsSoundTile count) numbered
renumbered_sound tiles numbered labels count spread long counted are = λ k d below.
    let many = are.so_many in
    let inside : k < length tiles = omega (arith, below, many) in
    let is = get_or_default numbered k d no_tile below ∙ are.each k inside in
    subst (IsSoundTile count) (sym is) (record {
      proper = spread.proper k no_tile inside;
      near = spread.near k no_tile inside;
      numbered = counted.below k 0 (omega (arith, inside, long));
    })

-- links are of tiles of the list
pub join_within : (connects : ℕ → ℕ → Bool) (tiles : List RegionTile) (links : List (ℕ × ℕ)) → JoinTiles connects tiles (IsPair links)
    → All (λ pair. (pair.0 < length tiles) × (pair.1 < length tiles)) links
join_within connects tiles links join = λ k d below.
    let pair = get_or links k d in
    let linked = join.sound pair.0 pair.1 (In-get_or links k d below) in
    (slice_get_within tiles pair.0 linked.first linked.first_there, slice_get_within tiles pair.1 linked.second linked.second_there)

-- the contacts of tiles, told by a fact that holds in one way at most, are listed
pub contacts_listed : (tiles : List RegionTile) (contacts : List Contact) → AreTileContacts tiles contacts → Lists (IsTileContact tiles) contacts
contacts_listed tiles contacts are = (
  Distinct-from_places contacts are.once,
  (λ c is.
      let f = list_any-source (is_contact c) contacts (are.whole c is) in
      let at = In-index f.0 contacts f.1.0 in
      let other = subst (IsTileContact tiles) (at.1.1 c) (are.each at.0 c at.1.0) in
      let tests = and_parts (eqb c.first f.0.first) (eqb c.second f.0.second) f.1.1 in
      let first = same_from_test c.first f.0.first tests.0 in
      let second = same_from_test c.second f.0.second tests.1 in
      let length = is.length_is ∙ ap (λ (k : ℕ). shared_by (tile_at tiles k) (tile_at tiles c.second)) first
      ∙ ap (λ (k : ℕ). shared_by (tile_at tiles f.0.first) (tile_at tiles k)) second ∙ sym other.length_is in
      let same : c ≡ f.0 = λ k. record { first = first k; second = second k; length = length k } in
      subst (λ (v : Contact). In v contacts) (sym same) f.1.0),
  (λ c i. let at = In-index c contacts i in subst (IsTileContact tiles) (at.1.1 c) (are.each at.0 c at.1.0)),
)

-- and back
pub contacts_told : (tiles : List RegionTile) (contacts : List Contact) → Lists (IsTileContact tiles) contacts → AreTileContacts tiles contacts
contacts_told tiles contacts listed = record {
  each = λ k d below. listed.2 (get_or contacts k d) (In-get_or contacts k d below);
  once = λ i j d less below. Distinct-places contacts i j d listed.0 less below;
  whole = λ c is. list_any-passes (is_contact c) contacts c (listed.1 c is) (λ k. one_plane c.first c.first refl k && one_plane c.second c.second refl k);
}
