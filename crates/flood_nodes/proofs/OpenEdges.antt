-- Edges that lead out of tiles of a class.
use Rattle.flood_nodes.proofs.Common.{◌≡◌, ℕ, ℤ, pos, ◌+ℤ◌, ◌*ℤ◌, Bool, true, false, cond, ◌&&◌, List, map, refl, sym, ◌∙◌, ap, subst, arith}
use Rattle.flood_nodes.proofs.Common.{false≢true, and_parts, ints, slice_get_within, slice_get-get_or, get_or_from_slice_get, Square}
use Rattle.flood_nodes.proofs.Common.{AreEdgeNeighbours, In, Lists, sum_on, Total, one_if, Lists-iff, Lists-map, sum_on-map, Total-iff, Total-at}
use Rattle.flood_nodes.proofs.Common.{Contact, Place, AreNeighbours, Layout, InFamily, Total-family, Total-gated, RegionTile, LeadsAcross, LiesIn}
use Rattle.flood_nodes.proofs.Common.{AreLayoutTiles, tile_at, no_tile, indices_of, inner_edges, IsTileContact}
use Rattle.std.proofs.Common.{◌-ℤ◌, not}
use Rattle.geo_core.specs.Neighbours.{edge_neighbours}
use Rattle.geo_core.proofs.FiniteSets.Sums.{sum_on-same, sum_on-sub, sum_on-scale}
use Rattle.geo_core.proofs.FiniteSets.Totals.{Total-from_list, Total-filter, Total-map, Total-parts, Total-unique, Total-unfilter}
use Rattle.rect_contacts.specs.Squares.{squares_of, area_of, perimeter_of}
use Rattle.rect_contacts.proofs.Leading.{sum_on-squares_of}
use Rattle.layout_model.specs.Places.{neighbours}
use Rattle.layout_model.specs.Measures.{IsArea}
use Rattle.layout_model.specs.EdgeCounts.{IsEdgeCount}
use Rattle.flood_nodes.specs.TileShares.{IsInTiles, edges_by_contacts, open_by_contacts, is_of}
use Rattle.flood_nodes.specs.TileShares.{ContactsCloseEdges, TilesMeasure}
use Rattle.flood_nodes.proofs.ShareLaws.{Lists-indices_of}
use Rattle.flood_nodes.proofs.TileEdges.{lies_in_one, place_on, place_is, Lists-tile, Lists-edge_neighbours}
use Rattle.flood_nodes.proofs.EdgeTotals.{contacts_count_edges}

pub Lists-neighbours : (a : Place) → Lists (AreNeighbours a) (neighbours a)
Lists-neighbours a =
    Lists-iff (λ (b : Place). (s : Square) × (AreEdgeNeighbours a.square s × (place_on a.plane s ≡ b))) (AreNeighbours a) (neighbours a)
    (λ b h. subst (AreNeighbours a) h.1.1 (refl, h.1.0))
    (λ b near. (b.square, (near.1, place_is a.plane b (sym near.0))))
    (Lists-map (AreEdgeNeighbours a.square) (place_on a.plane) (edge_neighbours a.square) (λ s t p q e. ap (λ (b : Place). b.square) e)
    (Lists-edge_neighbours a.square))

-- how many neighbours pass a test
abbrev pub passing : (Place → Bool) → Place → ℤ
passing test place = sum_on (λ neighbour. one_if (test neighbour)) (neighbours place)

-- a sum over places of the neighbours that pass a test counts edges
pub edges_by_places : (P : Place → Type 0) (test : Place → Bool) (xs : List Place) → Lists P xs → IsEdgeCount P (λ b. test b ≡ true) (sum_on (passing test) xs)
edges_by_places P test xs listed =
    let Across = LeadsAcross P (λ b. test b ≡ true) in
    Total-iff (λ (e : Place × Place). Across e × In e.0 xs) Across (λ e. pos 1) (sum_on (passing test) xs)
    (λ e h. h.0) (λ e h. (h, listed.1 e.0 h.from))
    (Total-parts Across (λ (e : Place × Place). e.0) (λ e. pos 1) (passing test) xs listed.0
    (λ l among.
    let edge : Place → Place × Place = λ b. (l, b) in
    Total-iff (λ (e : Place × Place). (b : Place) × ((AreNeighbours l b × (test b ≡ true)) × (edge b ≡ e))) (λ (e : Place × Place). Across e × (l ≡ e.0)) (λ
    e. pos 1) (passing test l)
    (λ e h.
    let across : Across (edge h.0) = record { from = listed.2 l among; to = h.1.0.1; near = h.1.0.0 } in
    (subst Across h.1.1 across, ap (λ (p : Place × Place). p.0) h.1.1))
    (λ e h. (e.1, ((subst (λ (p : Place). AreNeighbours p e.1) (sym h.1) h.0.near, h.0.to), ap (λ (p : Place). (p, e.1)) h.1)))
    (Total-map (λ (b : Place). AreNeighbours l b × (test b ≡ true)) edge (λ e. pos 1) (passing test l)
    (λ a b p q same. ap (λ (e : Place × Place). e.1) same)
    (Total-filter (AreNeighbours l) test (λ b. pos 1) (passing test l)
    (Total-from_list (AreNeighbours l) (λ (b : Place). one_if (test b)) (neighbours l) (Lists-neighbours l))))))

one_if-not : (t : Bool) → one_if (not t) ≡ pos 1 -ℤ one_if t
one_if-not true = refl
one_if-not false = refl

-- of four neighbours those that do not pass are the others
others : (test : Place → Bool) (a : Place) → passing (λ b. not (test b)) a ≡ pos 4 -ℤ passing test a
others test a =
    sum_on-same (λ (b : Place). one_if (not (test b))) (λ (b : Place). pos 1 -ℤ one_if (test b)) (neighbours a) (λ b among. one_if-not (test b))
    ∙ sum_on-sub (λ (b : Place). pos 1) (λ (b : Place). one_if (test b)) (neighbours a)

-- the number of places of some tiles
pub tiles_count : (layout : Layout) (tiles : List RegionTile) (test : ℕ → Bool) → AreLayoutTiles layout tiles
    → Total (IsInTiles tiles test) (λ place. pos 1) (sum_on (λ (i : ℕ). cond (test i) (area_of (tile_at tiles i).area) (pos 0)) (indices_of tiles))
tiles_count layout tiles test are =
    let listed = Lists-indices_of tiles in
    let Set : ℕ → Place → Type 0 = λ i place. (test i ≡ true) × LiesIn tiles i place in
    let part : ℕ → ℤ = λ i. cond (test i) (area_of (tile_at tiles i).area) (pos 0) in
    Total-iff (InFamily Set (indices_of tiles)) (IsInTiles tiles test) (λ place. pos 1) (sum_on part (indices_of tiles))
    (λ place h. record { index = h.label; lies = h.inside.1; passes = h.inside.0 })
    (λ place h. record { label = h.index; among = listed.1 h.index (slice_get_within tiles h.index h.lies.tile h.lies.there); inside = (h.passes, h.lies) })
    (Total-family Set (λ place. pos 1) part (indices_of tiles) listed.0
    (λ i j place p q. lies_in_one tiles i j place are.apart p.1 q.1)
    (λ i among.
    let inside = listed.2 i among in
    let tile = tile_at tiles i in
    let there = slice_get-get_or tiles i no_tile inside in
    Total-gated (test i ≡ true) (LiesIn tiles i) (λ place. pos 1) (area_of tile.area) (test i) (λ e. e) (λ e. e)
    (Total-at (LiesIn tiles i) (λ place. pos 1) (sum_on (λ (p : Place). pos 1) (map (place_on tile.plane) (squares_of tile.area))) (area_of tile.area)
    (sum_on-map (place_on tile.plane) (λ (p : Place). pos 1) (squares_of tile.area) ∙ sum_on-squares_of tile.area (are.proper i no_tile inside))
    (Total-from_list (LiesIn tiles i) (λ (p : Place). pos 1) (map (place_on tile.plane) (squares_of tile.area)) (Lists-tile tiles i tile there)))))

-- what a tile of the class counts
gate_inner : (p q : Bool) (area perimeter : ℤ) → (p ≡ true → q ≡ true) → one_if (p && q) *ℤ ((pos 4 *ℤ area) -ℤ perimeter) ≡ (pos 4 *ℤ cond p area (pos 0))
    -ℤ cond p perimeter (pos 0)
gate_inner true true area perimeter h = omega (arith, ints)
gate_inner true false area perimeter h = absurd (false≢true (h refl))
gate_inner false q area perimeter h = omega (arith, ints)

what_is_left : (a p c : ℤ) → (pos 4 *ℤ a) -ℤ (((pos 4 *ℤ a) -ℤ p) +ℤ c) ≡ p -ℤ c
what_is_left a p c = omega (arith, ints)

four_times : (a b : ℤ) → a ≡ b → pos 4 *ℤ a ≡ pos 4 *ℤ b
four_times a b e = ap (λ (z : ℤ). pos 4 *ℤ z) e

module _ (layout : Layout) (tiles : List RegionTile) (contacts : List Contact) (in_class from : ℕ → Bool)
    (are : AreLayoutTiles layout tiles) (listed : Lists (IsTileContact tiles) contacts) (space_out : in_class 0 ≡ false)
    (inside : (i : ℕ) → from i ≡ true → is_of tiles in_class i ≡ true) where
  abbrev class_at : Place → Bool
  class_at place = in_class (layout place)

  abbrev of_class : ℕ → Bool
  of_class = is_of tiles in_class

  tile_class : (i : ℕ) (place : Place) → LiesIn tiles i place → class_at place ≡ of_class i
  tile_class i place lies = ap in_class (are.kinds i place lies ∙ sym (ap (λ (t : RegionTile). t.kind.0) (get_or_from_slice_get tiles i lies.tile no_tile
      lies.there)))

  in_tile_of_class : (place : Place) → class_at place ≡ true → IsInTiles tiles of_class place
  in_tile_of_class place passes =
      let there = are.every place (λ none. false≢true (sym space_out ∙ ap in_class (sym none) ∙ passes)) in
      record { index = there.0; lies = there.1; passes = sym (tile_class there.0 place there.1) ∙ passes }

  -- the edges within the class
  closed : IsEdgeCount (IsInTiles tiles from) (λ place. class_at place ≡ true) (edges_by_contacts tiles contacts from of_class)
  closed =
      Total-iff (LeadsAcross (IsInTiles tiles from) (IsInTiles tiles of_class)) (LeadsAcross (IsInTiles tiles from) (λ place. class_at place ≡ true)) (λ e.
      pos 1) (edges_by_contacts tiles contacts from of_class)
      (λ e h. record { from = h.from; to = tile_class h.to.index e.1 h.to.lies ∙ h.to.passes; near = h.near })
      (λ e h. record { from = h.from; to = in_tile_of_class e.1 h.to; near = h.near })
      (contacts_count_edges layout tiles contacts from of_class are listed)

  abbrev shared : ℤ
  shared = sum_on (λ (c : Contact). (one_if (from c.first && of_class c.second) +ℤ one_if (from c.second && of_class c.first)) *ℤ c.length) contacts

  abbrev area_sum : ℤ
  area_sum = sum_on (λ (i : ℕ). cond (from i) (area_of (tile_at tiles i).area) (pos 0)) (indices_of tiles)

  abbrev perimeter_sum : ℤ
  perimeter_sum = sum_on (λ (i : ℕ). cond (from i) (perimeter_of (tile_at tiles i).area) (pos 0)) (indices_of tiles)

  inner_sum : sum_on (λ (i : ℕ). one_if (from i && of_class i) *ℤ inner_edges (tile_at tiles i).area) (indices_of tiles) ≡ (pos 4 *ℤ area_sum) -ℤ perimeter_sum
  inner_sum =
      let area : ℕ → ℤ = λ i. cond (from i) (area_of (tile_at tiles i).area) (pos 0) in
      let perimeter : ℕ → ℤ = λ i. cond (from i) (perimeter_of (tile_at tiles i).area) (pos 0) in
      sum_on-same (λ (i : ℕ). one_if (from i && of_class i) *ℤ inner_edges (tile_at tiles i).area) (λ (i : ℕ). (pos 4 *ℤ area i) -ℤ perimeter i) (indices_of
      tiles)
      (λ i among. gate_inner (from i) (of_class i) (area_of (tile_at tiles i).area) (perimeter_of (tile_at tiles i).area) (inside i))
      ∙ sum_on-sub (λ (i : ℕ). pos 4 *ℤ area i) perimeter (indices_of tiles)
      ∙ ap (λ (z : ℤ). z -ℤ perimeter_sum) (sum_on-scale (pos 4) area (indices_of tiles))

  -- the places of the tiles, with their open edges
  open_sum : (xs : List Place) → Lists (IsInTiles tiles from) xs → sum_on (passing (λ b. not (class_at b))) xs ≡ open_by_contacts tiles contacts from of_class
  open_sum xs places =
      let so_many = Total-unique (IsInTiles tiles from) (λ (p : Place). pos 1) (sum_on (λ (p : Place). pos 1) xs) area_sum
      (Total-from_list (IsInTiles tiles from) (λ (p : Place). pos 1) xs places) (tiles_count layout tiles from are) in
      let same = Total-unique (LeadsAcross (IsInTiles tiles from) (λ place. class_at place ≡ true)) (λ (e : Place × Place). pos 1) (sum_on (passing class_at)
      xs) (edges_by_contacts tiles contacts from of_class)
      (edges_by_places (IsInTiles tiles from) class_at xs places) closed in
      sum_on-same (passing (λ b. not (class_at b))) (λ (a : Place). pos 4 -ℤ passing class_at a) xs (λ a among. others class_at a)
      ∙ sum_on-sub (λ (a : Place). pos 4) (passing class_at) xs
      ∙ (λ k. (sum_on-scale (pos 4) (λ (a : Place). pos 1) xs ∙ four_times (sum_on (λ (p : Place). pos 1) xs) area_sum so_many) k -ℤ same k)
      ∙ ap (λ (z : ℤ). (pos 4 *ℤ area_sum) -ℤ (z +ℤ shared)) inner_sum
      ∙ what_is_left area_sum perimeter_sum shared

  pub open_edges_of : IsEdgeCount (IsInTiles tiles from) (λ place. not (class_at place) ≡ true) (open_by_contacts tiles contacts from of_class)
  open_edges_of =
      let total = tiles_count layout tiles from are in
      Total-at (LeadsAcross (IsInTiles tiles from) (λ place. not (class_at place) ≡ true)) (λ e. pos 1) (sum_on (passing (λ b. not (class_at b))) total.0)
      (open_by_contacts tiles contacts from of_class)
      (open_sum total.0 total.1.0)
      (edges_by_places (IsInTiles tiles from) (λ b. not (class_at b)) total.0 total.1.0)

pub contacts_close_edges : ContactsCloseEdges
contacts_close_edges layout tiles contacts in_class from are listed space_out inside = open_edges_of layout tiles contacts in_class from are listed space_out
    inside

-- perimeters of some tiles in a class
pub tiles_measure : TilesMeasure
tiles_measure layout tiles contacts in_class from are listed space_out =
    let some : ℕ → Bool = λ i. from i && is_of tiles in_class i in
    let class_at : Place → Bool = λ place. in_class (layout place) in
    let led_out : Place → ℤ = passing (λ b. not (class_at b)) in
    let total = tiles_count layout tiles some are in
    let all = tiles_count layout tiles from are in
    let tile_class : (i : ℕ) (place : Place) → LiesIn tiles i place → class_at place ≡ is_of tiles in_class i =
    (λ i place lies. ap in_class (are.kinds i place lies ∙ sym (ap (λ (t : RegionTile). t.kind.0) (get_or_from_slice_get tiles i lies.tile no_tile
    lies.there)))) in
    Total-unfilter (IsInTiles tiles from) class_at led_out (open_by_contacts tiles contacts some (is_of tiles in_class)) all.0 all.1.0
    (Total-iff (IsInTiles tiles some) (λ (place : Place). IsInTiles tiles from place × (class_at place ≡ true)) led_out (open_by_contacts tiles contacts some
    (is_of tiles in_class))
    (λ place h. let tests = and_parts (from h.index) (is_of tiles in_class h.index) h.passes in
    (record { index = h.index; lies = h.lies; passes = tests.0 }, tile_class h.index place h.lies ∙ tests.1))
    (λ place h. record { index = h.0.index; lies = h.0.lies; passes = (λ k. h.0.passes k && (sym (tile_class h.0.index place h.0.lies) ∙ h.1) k) })
    (Total-at (IsInTiles tiles some) led_out (sum_on led_out total.0) (open_by_contacts tiles contacts some (is_of tiles in_class))
    (open_sum layout tiles contacts in_class some are listed space_out (λ i e. (and_parts (from i) (is_of tiles in_class i) e).1) total.0 total.1.0)
    (Total-from_list (IsInTiles tiles some) led_out total.0 total.1.0)))

-- areas of some tiles in a class
pub tiles_area : (layout : Layout) (tiles : List RegionTile) (in_class from : ℕ → Bool) → AreLayoutTiles layout tiles
    → IsArea in_class layout (IsInTiles tiles from)
    (sum_on (λ (i : ℕ). cond (from i && is_of tiles in_class i) (area_of (tile_at tiles i).area) (pos 0)) (indices_of tiles))
tiles_area layout tiles in_class from are =
    let some : ℕ → Bool = λ i. from i && is_of tiles in_class i in
    let class_at : Place → Bool = λ place. in_class (layout place) in
    let all = tiles_count layout tiles from are in
    let n = sum_on (λ (i : ℕ). cond (some i) (area_of (tile_at tiles i).area) (pos 0)) (indices_of tiles) in
    let tile_class : (i : ℕ) (place : Place) → LiesIn tiles i place → class_at place ≡ is_of tiles in_class i =
    (λ i place lies. ap in_class (are.kinds i place lies ∙ sym (ap (λ (t : RegionTile). t.kind.0)
    (get_or_from_slice_get tiles i lies.tile no_tile lies.there)))) in
    Total-unfilter (IsInTiles tiles from) class_at (λ (p : Place). pos 1) n all.0 all.1.0
    (Total-iff (IsInTiles tiles some) (λ (place : Place). IsInTiles tiles from place × (class_at place ≡ true)) (λ (p : Place). pos 1) n
    (λ place h. let tests = and_parts (from h.index) (is_of tiles in_class h.index) h.passes in
    (record { index = h.index; lies = h.lies; passes = tests.0 }, tile_class h.index place h.lies ∙ tests.1))
    (λ place h. record {
      index = h.0.index;
      lies = h.0.lies;
      passes = (λ k. h.0.passes k && (sym (tile_class h.0.index place h.0.lies) ∙ h.1) k);
    })
    (tiles_count layout tiles some are))
