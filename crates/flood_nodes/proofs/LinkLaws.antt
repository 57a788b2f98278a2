-- The pairs of tiles that are found hold all that are linked.
use Rattle.flood_nodes.proofs.Common.{◌≡◌, ◌≢◌, ◌⊎◌, inl, inr, ℕ, ◌+◌, ◌<◌, ℤ, pos, ◌<ℤ◌, Bool, true, false, cond, eqb, ◌&&◌, List, [], ◌∷◌, ◌++◌}
use Rattle.flood_nodes.proofs.Common.{filter, length, get_or, Some, IsTrue, sym, ◌∙◌, ap, subst, arith, slice_get, slice_index, All, AllPairs}
use Rattle.flood_nodes.proofs.Common.{cases_eq, cases_lt, false≢true, and_parts, ints, get_or-map, length-map, slice_get_within, slice_get-get_or}
use Rattle.flood_nodes.proofs.Common.{get_or_from_slice_get, Rect, Square, AreDisjoint, IsNear, Covers, IsProper, In, Lists, Lists-iff, In-get_or}
use Rattle.flood_nodes.proofs.Common.{In-index, In-map_source, RawTech, is_type, plane_of, IsWellFormed, IsPair, Contact, shared_length, no_rect}
use Rattle.flood_nodes.proofs.Common.{rect_at, shared_length-comm, RegionTile, AreLinkedTiles, JoinTiles, AreTyped, AreSpread, reaches, IsCrossing}
use Rattle.flood_nodes.proofs.Common.{IsReaching, areas_at, connected, AddsMeeting, no_tile, tile_at, shared_by, IsTileContact}
use Rattle.geo_core.specs.FiniteSets.Chain.{EitherWay}
use Rattle.geo_core.proofs.FiniteSets.Distincts.{Distinct-places}
use Rattle.geo_core.proofs.FiniteSets.Listings.{Lists-append, Lists-one, Lists-filter}
use Rattle.geo_core.proofs.FiniteSets.Members.{In-append_left, In-append_right, In-append_cases, In-map, In-filter}
use Rattle.geo_core.proofs.FiniteSets.Members.{In-filter_source, In-filter_passes}
use Rattle.tech_model.specs.Types.{connects}
use Rattle.tech_model.proofs.TypeLaws.{connects_back}
use Rattle.rect_contacts.specs.CommonSquares.{IsOverlap}
use Rattle.flood_nodes.specs.steps.LinkedTiles.{Meet, MeetAt}
use Rattle.flood_nodes.specs.Stacking.{placed_in, pairs_beside}
use Rattle.flood_nodes.specs.Stacking.{AddsStacked, AddsAllStacked}
use Rattle.flood_nodes.proofs.ShareLaws.{one_plane, two_planes}
use Rattle.flood_nodes.proofs.StackLaws.{same_from_test, imaged}

-- the numbers below n that pass a test
abbrev pub PassesBelow : (ℕ → Bool) → ℕ → ℕ → Type 0
PassesBelow test n k = (k < n) × (test k ≡ true)

pub passes_one_more : (test : ℕ → Bool) (n : ℕ) (xs : List ℕ) → test n ≡ true → Lists (PassesBelow test n) xs → Lists (PassesBelow test (n + 1)) (xs ++ n ∷ [])
passes_one_more test n xs passes listed =
    Lists-iff (λ k. PassesBelow test n k ⊎ (n ≡ k)) (PassesBelow test (n + 1)) (xs ++ n ∷ [])
    (λ k h. elim h [ inl p ↦ (omega (arith, p.0), p.1) | inr e ↦ (omega (arith, e), subst (λ (m : ℕ). test m ≡ true) e passes) ])
    (λ k p. elim (cases_lt k n) [ inl less ↦ inl (less, p.1) | inr ge ↦ inr (omega (arith, p.0, ge)) ])
    (Lists-append (PassesBelow test n) (λ k. n ≡ k) xs (n ∷ []) (λ k p e. omega (arith, p.0, e)) listed (Lists-one n))

pub passes_no_more : (test : ℕ → Bool) (n : ℕ) (xs : List ℕ) → test n ≡ false → Lists (PassesBelow test n) xs → Lists (PassesBelow test (n + 1)) xs
passes_no_more test n xs fails listed =
    Lists-iff (PassesBelow test n) (PassesBelow test (n + 1)) xs (λ k p. (omega (arith, p.0), p.1))
    (λ k p. (
      elim (cases_lt k n) [
        | inl less ↦ less
        | inr ge ↦ absurd (let e : k ≡ n = omega (arith, p.0, ge) in false≢true (sym fails ∙ subst (λ (m : ℕ). test m ≡ true) e p.1))
      ],
      p.1,
    )) listed

-- the test of a tile of a plane whose layer has an image on another
abbrev pub passes_reach : RawTech → List RegionTile → ℕ → ℕ → ℕ → Bool
passes_reach raw tiles plane other k = eqb (tile_at tiles k).plane plane && reaches raw other (tile_at tiles k).kind.0

pub reaching_are : (raw : RawTech) (tiles : List RegionTile) (plane other : ℕ) (crossings : List ℕ) → Lists (IsCrossing raw tiles) crossings
    → Lists (IsReaching raw tiles plane other) (filter (passes_reach raw tiles plane other) crossings)
reaching_are raw tiles plane other crossings listed =
    Lists-iff (λ k. IsCrossing raw tiles k × (passes_reach raw tiles plane other k ≡ true)) (IsReaching raw tiles plane other) (filter (passes_reach raw
    tiles plane other) crossings)
    (λ k h. let e = and_parts (eqb (tile_at tiles k).plane plane) (reaches raw other (tile_at tiles k).kind.0) h.1 in
    record { crossing = h.0; on_plane = same_from_test (tile_at tiles k).plane plane e.0; reaches = e.1 })
    (λ k r. (r.crossing, (λ i. one_plane (tile_at tiles k).plane plane r.on_plane i && r.reaches i)))
    (Lists-filter (IsCrossing raw tiles) (passes_reach raw tiles plane other) crossings listed)

-- nothing is added where no planes are asked for
pub adds_none : (raw : RawTech) (tiles : List RegionTile) (Low : ℕ → Type 0) (High : ℕ → ℕ → Type 0) (xs : List (ℕ × ℕ)) → ((p q : ℕ) → Low p → High p q → ⊥)
    → AddsMeeting raw tiles Low High xs xs
adds_none raw tiles Low High xs none = record { kept = λ p i. i; sound = λ p i. inl i; whole = λ i j linked low high. absurd (none _ _ low high) }

-- what two steps add
pub adds_more : (raw : RawTech) (tiles : List RegionTile) (Low Low' Low'' : ℕ → Type 0) (High High' High'' : ℕ → ℕ → Type 0) (xs ys zs : List (ℕ × ℕ))
    → AddsMeeting raw tiles Low High xs ys → AddsMeeting raw tiles Low' High' ys zs → ((p q : ℕ) → Low'' p → High'' p q
    → (Low p × High p q) ⊎ (Low' p × High' p q))
    → AddsMeeting raw tiles Low'' High'' xs zs
adds_more raw tiles Low Low' Low'' High High' High'' xs ys zs a b cover = record {
  kept = λ p i. b.kept p (a.kept p i);
  sound = λ p i. elim (b.sound p i) [ inl j ↦ a.sound p j | inr m ↦ inr m ];
  whole = λ i j linked low high. elim (cover (tile_at tiles i).plane (tile_at tiles j).plane low high) [
    | inl h ↦ (let pair : ℕ × ℕ = (i, j) in b.kept pair (a.whole i j linked h.0 h.1))
    | inr h ↦ b.whole i j linked h.0 h.1
  ];
}

tile_is : (tiles : List RegionTile) (i : ℕ) (tile : RegionTile) → slice_get tiles i ≡ Some tile → tile_at tiles i ≡ tile
tile_is tiles i tile there = get_or_from_slice_get tiles i tile no_tile there

module _ (raw : RawTech) (tiles : List RegionTile) (low high : ℕ) (lows highs : List ℕ) (pairs old new : List (ℕ × ℕ)) (well : IsWellFormed raw)
    (typed : AreTyped raw tiles) (above : low < high) (low_are : Lists (IsReaching raw tiles low high) lows) (high_are : Lists (IsReaching raw tiles high
    low) highs)
    (overlaps : Lists (IsOverlap (areas_at tiles lows) (areas_at tiles highs)) pairs) (added : new ≡ old ++ placed_in lows highs pairs) where
  area_is : (places : List ℕ) (k : ℕ) → k < length places → rect_at (areas_at tiles places) k ≡ (tile_at tiles (get_or places k 0)).area
  area_is places k below = get_or-map (λ (m : ℕ). (tile_at tiles m).area) places k 0 no_rect below

  so_many : (places : List ℕ) → length (areas_at tiles places) ≡ length places
  so_many places = length-map places (λ (m : ℕ). (tile_at tiles m).area)

  meets : (pair : ℕ × ℕ) → IsOverlap (areas_at tiles lows) (areas_at tiles highs) pair → MeetAt tiles (get_or lows pair.0 0) (get_or highs pair.1 0)
  meets pair o =
      let in_first = o.in_first in let in_second = o.in_second in
      let many = so_many lows in let number = so_many highs in
      let first : pair.0 < length lows = omega (arith, in_first, many) in
      let second : pair.1 < length highs = omega (arith, in_second, number) in
      let a = low_are.2 (get_or lows pair.0 0) (In-get_or lows pair.0 0 first) in
      let b = high_are.2 (get_or highs pair.1 0) (In-get_or highs pair.1 0 second) in
      let on = a.on_plane in let other = b.on_plane in
      record {
        first = tile_at tiles (get_or lows pair.0 0);
        second = tile_at tiles (get_or highs pair.1 0);
        first_there = slice_get-get_or tiles (get_or lows pair.0 0) no_tile a.crossing.0;
        second_there = slice_get-get_or tiles (get_or highs pair.1 0) no_tile b.crossing.0;
        meet = inr (
          (λ same. omega (arith, same, on, other, above)),
          record {
            square = o.square;
            in_first = subst (λ (r : Rect). Covers r o.square) (area_is lows pair.0 first) o.one;
            in_second = subst (λ (r : Rect). Covers r o.square) (area_is highs pair.1 second) o.other;
          },
        );
      }

  placed : (pair : ℕ × ℕ) → In pair (placed_in lows highs pairs) → MeetAt tiles pair.0 pair.1
  placed pair i =
      let s = In-map_source (λ (p : ℕ × ℕ). (slice_index lows p.0, slice_index highs p.1)) pair pairs i in
      subst (λ (p : ℕ × ℕ). MeetAt tiles p.0 p.1) s.1.1 (meets s.0 (overlaps.2 s.0 s.1.0))

  typed_at : (i : ℕ) → i < length tiles → IsTrue (is_type raw (tile_at tiles i).kind.0) × (plane_of raw (tile_at tiles i).kind.0 ≡ (tile_at tiles i).plane)
  typed_at i below = typed i no_tile below

  all_placed : (i j : ℕ) → AreLinkedTiles (connects raw) tiles i j → (tile_at tiles i).plane ≡ low → (tile_at tiles j).plane ≡ high
      → In {X = ℕ × ℕ} (i, j) (placed_in lows highs pairs)
  all_placed i j linked on other =
      let a = tile_is tiles i linked.first linked.first_there in
      let b = tile_is tiles j linked.second linked.second_there in
      let i_in = slice_get_within tiles i linked.first linked.first_there in
      let j_in = slice_get_within tiles j linked.second linked.second_there in
      let ti = typed_at i i_in in let tj = typed_at j j_in in
      let s = (tile_at tiles i).kind.0 in let t = (tile_at tiles j).kind.0 in
      let link : connects raw s t ≡ true = subst (λ (v : RegionTile). connects raw v.kind.0 t ≡ true) (sym a)
      (subst (λ (v : RegionTile). connects raw linked.first.kind.0 v.kind.0 ≡ true) (sym b) linked.connected) in
      let low_plane : plane_of raw s ≡ low = ti.1 ∙ on in
      let high_plane : plane_of raw t ≡ high = tj.1 ∙ other in
      let differ : plane_of raw s ≢ plane_of raw t = λ e. omega (arith, e, low_plane, high_plane, above) in
      let up = imaged raw s t well ti.0 tj.0 link differ in
      let down = imaged raw t s well tj.0 ti.0 (connects_back raw t s ∙ link) (λ e. differ (sym e)) in
      let x = In-index i lows (low_are.1 i (record {
        crossing = (i_in, up.several);
        on_plane = on;
        reaches = subst (λ (p : ℕ). reaches raw p s ≡ true) high_plane up.reaches;
      })) in
      let y = In-index j highs (high_are.1 j (record {
        crossing = (j_in, down.several);
        on_plane = other;
        reaches = subst (λ (p : ℕ). reaches raw p t ≡ true) low_plane down.reaches;
      })) in
      let many = so_many lows in let number = so_many highs in
      let common = stacked_square linked.meet (λ same. let p = ap (λ (v : RegionTile). v.plane) a in let q = ap (λ (v : RegionTile). v.plane) b in
      omega (arith, same, p, q, on, other, above)) in
      let one : Covers (rect_at (areas_at tiles lows) x.0) common.0 = subst (λ (r : Rect). Covers r common.0)
      (sym (area_is lows x.0 x.1.0 ∙ ap (λ (k : ℕ). (tile_at tiles k).area) (x.1.1 0) ∙ ap (λ (v : RegionTile). v.area) a)) common.1.0 in
      let two : Covers (rect_at (areas_at tiles highs) y.0) common.0 = subst (λ (r : Rect). Covers r common.0)
      (sym (area_is highs y.0 y.1.0 ∙ ap (λ (k : ℕ). (tile_at tiles k).area) (y.1.1 0) ∙ ap (λ (v : RegionTile). v.area) b)) common.1.1 in
      let pair : ℕ × ℕ = (x.0, y.0) in
      let there = overlaps.1 pair (record {
        in_first = omega (arith, many, x.1.0);
        in_second = omega (arith, number, y.1.0);
        square = common.0;
        one = one;
        other = two;
      }) in
      let is : (slice_index lows x.0, slice_index highs y.0) ≡ (i, j) = λ k. (x.1.1 0 k, y.1.1 0 k) in
      subst (λ (p : ℕ × ℕ). In p (placed_in lows highs pairs)) is (In-map (λ (p : ℕ × ℕ). (slice_index lows p.0, slice_index highs p.1)) pair pairs there)
    where
      stacked_square : {c d : RegionTile} → Meet c d → (c.plane ≡ d.plane → ⊥) → (square : Square) × (Covers c.area square × Covers d.area square)
      stacked_square (inl beside) planes = absurd (planes beside.0)
      stacked_square (inr upon) planes = (upon.1.square, (upon.1.in_first, upon.1.in_second))

  pub adds_stacked : AddsStacked raw tiles low high old new
  adds_stacked = record {
    kept = λ p i. subst (λ (v : List (ℕ × ℕ)). In p v) (sym added) (In-append_left p old (placed_in lows highs pairs) i);
    sound = λ p i. elim (In-append_cases p old (placed_in lows highs pairs) (subst (λ (v : List (ℕ × ℕ)). In p v) added i)) [
      | inl j ↦ inl j
      | inr j ↦ inr
          (placed p j)
    ];
    whole = λ i j linked on other. subst (λ (v : List (ℕ × ℕ)). In {X = ℕ × ℕ} (i, j) v) (sym added)
        (In-append_right {X = ℕ × ℕ} (i, j) old (placed_in lows highs pairs) (all_placed i j linked on other));
  }

-- the rectangles of tiles of one plane, at different places
module _ (raw : RawTech) (tiles : List RegionTile) (plane other : ℕ) (places : List ℕ) (spread : AreSpread tiles) (are : Lists (IsReaching raw tiles plane
    other) places) where
  place_at : (k d : ℕ) → k < length places → IsReaching raw tiles plane other (get_or places k d)
  place_at k d below = are.2 (get_or places k d) (In-get_or places k d below)

  pub places_within : All (λ place. place < length tiles) places
  places_within = λ k d below. (place_at k d below).crossing.0

  area_at : (k : ℕ) (d : Rect) → k < length (areas_at tiles places)
      → (k < length places) × (get_or (areas_at tiles places) k d ≡ (tile_at tiles (get_or places k 0)).area)
  area_at k d below =
      let many = length-map places (λ (m : ℕ). (tile_at tiles m).area) in
      let inside : k < length places = omega (arith, below, many) in
      (inside, get_or-map (λ (m : ℕ). (tile_at tiles m).area) places k 0 d inside)

  pub areas_proper : All IsProper (areas_at tiles places)
  areas_proper = λ k d below. let a = area_at k d below in
      subst IsProper (sym a.1) (spread.proper (get_or places k 0) no_tile (place_at k 0 a.0).crossing.0)

  pub areas_near : All IsNear (areas_at tiles places)
  areas_near = λ k d below. let a = area_at k d below in
      subst IsNear (sym a.1) (spread.near (get_or places k 0) no_tile (place_at k 0 a.0).crossing.0)

  apart_at : (i j : ℕ) → i < length tiles → j < length tiles → i ≢ j → (tile_at tiles i).plane ≡ (tile_at tiles j).plane
      → AreDisjoint (tile_at tiles i).area (tile_at tiles j).area
  apart_at i j i_in j_in differ same = elim (cases_lt i j) [
    | inl less ↦ spread.apart i j no_tile less j_in same
    | inr ge ↦ (λ square p q. spread.apart j i no_tile (elim (cases_lt j i) [ inl more ↦ more | inr le ↦ absurd (differ (omega arith)) ]) i_in (sym same)
        square q p)
  ]

  pub areas_apart : AllPairs AreDisjoint (areas_at tiles places)
  areas_apart = λ i j d less below.
      let b = area_at j d below in
      let many = length-map places (λ (m : ℕ). (tile_at tiles m).area) in
      let a = area_at i d (omega (arith, less, below)) in
      let p = place_at i 0 a.0 in let q = place_at j 0 b.0 in
      subst (λ (r : Rect). AreDisjoint r (get_or (areas_at tiles places) j d)) (sym a.1)
      (subst (λ (r : Rect). AreDisjoint (tile_at tiles (get_or places i 0)).area r) (sym b.1)
      (apart_at (get_or places i 0) (get_or places j 0) p.crossing.0 q.crossing.0 (Distinct-places places i j 0 are.0 less b.0) (p.on_plane ∙ sym q.on_plane)))

-- places of pairs lie in the lists
pub overlaps_within : (tiles : List RegionTile) (lows highs : List ℕ) (pairs : List (ℕ × ℕ))
    → Lists (IsOverlap (areas_at tiles lows) (areas_at tiles highs)) pairs
    → All (λ pair. (pair.0 < length lows) × (pair.1 < length highs)) pairs
overlaps_within tiles lows highs pairs listed = λ k d below.
    let o = listed.2 (get_or pairs k d) (In-get_or pairs k d below) in
    let many = length-map lows (λ (m : ℕ). (tile_at tiles m).area) in
    let number = length-map highs (λ (m : ℕ). (tile_at tiles m).area) in
    let a = o.in_first in let b = o.in_second in
    (omega (arith, a, many), omega (arith, b, number))

pub crossings_within : (raw : RawTech) (tiles : List RegionTile) (crossings : List ℕ) → Lists (IsCrossing raw tiles) crossings
    → All (λ place. place < length tiles) crossings
crossings_within raw tiles crossings listed = λ k d below. (listed.2 (get_or crossings k d) (In-get_or crossings k d below)).0

-- a contact is a place where tiles meet
pub contact_meets : (tiles : List RegionTile) (c : Contact) → IsTileContact tiles c → MeetAt tiles c.first c.second
contact_meets tiles c is =
    let order = is.in_order in let last = is.in_list in
    record {
      first = tile_at tiles c.first;
      second = tile_at tiles c.second;
      first_there = slice_get-get_or tiles c.first no_tile (omega (arith, order, last));
      second_there = slice_get-get_or tiles c.second no_tile last;
      meet = inl (share_meets (tile_at tiles c.first) (tile_at tiles c.second) (subst (λ (z : ℤ). pos 0 <ℤ z) is.length_is is.not_none));
    }
  where
    share_meets : (a b : RegionTile) → pos 0 <ℤ shared_by a b → (a.plane ≡ b.plane) × (pos 0 <ℤ shared_length a.area b.area)
    share_meets a b some = elim (cases_eq a.plane b.plane) [
      | inl same ↦ (same, subst (λ (t : Bool). pos 0 <ℤ cond t (shared_length a.area b.area) (pos 0)) (one_plane a.plane b.plane same) some)
      | inr differ ↦ absurd (zero_not (subst (λ (t : Bool). pos 0 <ℤ cond t (shared_length a.area b.area) (pos 0)) (two_planes a.plane b.plane differ) some))
    ]
      where
        zero_not : pos 0 <ℤ pos 0 → ⊥
        zero_not h = omega (arith, ints)

module _ (raw : RawTech) (tiles : List RegionTile) (contacts : List Contact) (pairs : List (ℕ × ℕ)) (well : IsWellFormed raw) (typed : AreTyped raw tiles)
    (listed : Lists (IsTileContact tiles) contacts) (adds : AddsAllStacked raw tiles (length raw.planes) (pairs_beside contacts) pairs) where
  pair_meets : (pair : ℕ × ℕ) → In pair pairs → MeetAt tiles pair.0 pair.1
  pair_meets pair i = elim (adds.sound pair i) [
    | inr m ↦ m
    | inl j ↦ (let s = In-map_source (λ (c : Contact). (c.first, c.second)) pair contacts j in
        subst (λ (p : ℕ × ℕ). MeetAt tiles p.0 p.1) s.1.1 (contact_meets tiles s.0 (listed.2 s.0 s.1.0)))
  ]

  pub pairs_within : All (λ pair. (pair.0 < length tiles) × (pair.1 < length tiles)) pairs
  pairs_within = λ k d below. let m = pair_meets (get_or pairs k d) (In-get_or pairs k d below) in
      (slice_get_within tiles (get_or pairs k d).0 m.first m.first_there, slice_get_within tiles (get_or pairs k d).1 m.second m.second_there)

  abbrev links : List (ℕ × ℕ)
  links = connected raw tiles pairs

  abbrev test : ℕ × ℕ → Bool
  test pair = connects raw (tile_at tiles pair.0).kind.0 (tile_at tiles pair.1).kind.0

  sound : (i j : ℕ) → IsPair links i j → AreLinkedTiles (connects raw) tiles i j
  sound i j l =
      let pair : ℕ × ℕ = (i, j) in
      let m = pair_meets pair (In-filter_source test pair pairs l) in
      let passes = In-filter_passes test pair pairs l in
      let a = tile_is tiles i m.first m.first_there in
      let b = tile_is tiles j m.second m.second_there in
      record {
        first = m.first;
        second = m.second;
        first_there = m.first_there;
        second_there = m.second_there;
        connected = subst (λ (v : RegionTile). connects raw v.kind.0 m.second.kind.0 ≡ true) a
            (subst (λ (v : RegionTile). connects raw (tile_at tiles i).kind.0 v.kind.0 ≡ true) b passes);
        meet = m.meet;
      }

  linked_test : (i j : ℕ) → AreLinkedTiles (connects raw) tiles i j → test (i, j) ≡ true
  linked_test i j linked =
      subst (λ (v : RegionTile). connects raw v.kind.0 (tile_at tiles j).kind.0 ≡ true) (sym (tile_is tiles i linked.first linked.first_there))
      (subst (λ (v : RegionTile). connects raw linked.first.kind.0 v.kind.0 ≡ true) (sym (tile_is tiles j linked.second linked.second_there)) linked.connected)

  back : (i j : ℕ) → AreLinkedTiles (connects raw) tiles i j → AreLinkedTiles (connects raw) tiles j i
  back i j linked = record {
    first = linked.second;
    second = linked.first;
    first_there = linked.second_there;
    second_there = linked.first_there;
    connected = connects_back raw linked.second.kind.0 linked.first.kind.0 ∙ linked.connected;
    meet = elim linked.meet [
      | inl beside ↦ inl (sym beside.0, subst (λ (z : ℤ). pos 0 <ℤ z) (shared_length-comm linked.first.area linked.second.area) beside.1)
      | inr upon ↦ inr ((λ same. upon.0 (sym same)), record { square = upon.1.square; in_first = upon.1.in_second; in_second = upon.1.in_first })
    ];
  }

  plane_in : (i : ℕ) → i < length tiles → (tile_at tiles i).plane < length raw.planes
  plane_in i below = let t = typed i no_tile below in let last = well.type_planes (tile_at tiles i).kind.0 t.0 in let on = t.1 in omega (arith, last, on)

  -- of linked tiles in order, on one plane
  beside_link : (i j : ℕ) → i < j → (linked : AreLinkedTiles (connects raw) tiles i j) → linked.first.plane ≡ linked.second.plane
      → pos 0 <ℤ shared_length linked.first.area linked.second.area → IsPair links i j
  beside_link i j less linked same share =
      let a = tile_is tiles i linked.first linked.first_there in
      let b = tile_is tiles j linked.second linked.second_there in
      let length_is : shared_by (tile_at tiles i) (tile_at tiles j) ≡ shared_length linked.first.area linked.second.area =
      ap (λ (v : RegionTile). shared_by v (tile_at tiles j)) a ∙ ap (λ (v : RegionTile). shared_by linked.first v) b
      ∙ ap (λ (t : Bool). cond t (shared_length linked.first.area linked.second.area) (pos 0)) (one_plane linked.first.plane linked.second.plane same) in
      let contact : Contact = record { first = i; second = j; length = shared_length linked.first.area linked.second.area } in
      let is : IsTileContact tiles contact = record {
        in_order = less;
        in_list = slice_get_within tiles j linked.second linked.second_there;
        length_is = sym length_is;
        not_none = share;
      } in
      let pair : ℕ × ℕ = (i, j) in
      In-filter test pair pairs (adds.kept pair (In-map (λ (c : Contact). (c.first, c.second)) contact contacts (listed.1 contact is))) (linked_test i j linked)

  stacked_link : (i j : ℕ) → AreLinkedTiles (connects raw) tiles i j → (tile_at tiles i).plane < (tile_at tiles j).plane → IsPair links i j
  stacked_link i j linked less =
      let i_in = plane_in i (slice_get_within tiles i linked.first linked.first_there) in
      let j_in = plane_in j (slice_get_within tiles j linked.second linked.second_there) in
      let pair : ℕ × ℕ = (i, j) in
      In-filter test pair pairs (adds.whole i j linked i_in (less, j_in)) (linked_test i j linked)

  whole : (i j : ℕ) → i ≢ j → AreLinkedTiles (connects raw) tiles i j → EitherWay (IsPair links) i j
  unfolding back
  whole i j differ linked = elim linked.meet [
    | inl beside ↦ (elim (cases_lt i j) [
      | inl less ↦ inl (beside_link i j less linked beside.0 beside.1)
      | inr ge ↦ inr (beside_link j i (elim (cases_lt j i) [ inl more ↦ more | inr le ↦ absurd (differ (omega arith)) ]) (back i j linked) (sym beside.0)
          (subst (λ (z : ℤ). pos 0 <ℤ z) (shared_length-comm linked.first.area linked.second.area) beside.1))
    ])
    | inr upon ↦
        (let a = ap (λ (v : RegionTile). v.plane) (tile_is tiles i linked.first linked.first_there) in
        let b = ap (λ (v : RegionTile). v.plane) (tile_is tiles j linked.second linked.second_there) in
        elim (cases_lt (tile_at tiles i).plane (tile_at tiles j).plane) [
          | inl less ↦ inl (stacked_link i j linked less)
          | inr ge ↦ inr (stacked_link j i (back i j linked) (elim (cases_lt (tile_at tiles j).plane (tile_at tiles i).plane) [
            | inl more ↦ more
            | inr le ↦ absurd (upon.0 (sym a ∙ (let same : (tile_at tiles i).plane ≡ (tile_at tiles j).plane = omega arith in same) ∙ b))
          ]))
        ])
  ]

  -- the connected ones of the pairs join the tiles
  pub links_join : JoinTiles (connects raw) tiles (IsPair links)
  links_join = record { sound = sound; whole = whole }
