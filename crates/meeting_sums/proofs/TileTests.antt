-- Tiles that pass a test, with places that do: their areas, and their edges to places that do not, are what the lengths of contacts say.
use Rattle.meeting_sums.proofs.Common.{◌≡◌, ℕ, ◌+◌, ◌<◌, pos, ℤ, ◌+ℤ◌, ◌-ℤ◌, ◌*ℤ◌, Bool, true, false, cond, eqb, ◌&&◌, List, map, length, get_or}
use Rattle.meeting_sums.proofs.Common.{Some, inl, inr, refl, sym, ◌∙◌, ap, subst, arith, slice_get, All, range_with_len, get_or-map, length-map}
use Rattle.meeting_sums.proofs.Common.{length-range_with_len, get_or-range_with_len, slice_get_within, slice_get-get_or, get_or_from_slice_get, In}
use Rattle.meeting_sums.proofs.Common.{Lists, sum_on, Total, one_if, In-index, In-get_or, sum_on-same, Total-at, Total-iff, Total-same, IsNear}
use Rattle.meeting_sums.proofs.Common.{Covers, IsProper, Contact, area_of, perimeter_of, Place, LiesIn, LieApart, AreLayoutTiles, RegionTile}
use Rattle.meeting_sums.proofs.Common.{AreSpread, no_tile, tile_at, IsTileContact, IsInTiles, Lists-indices_of, one_plane, same_from_test}
use Rattle.std.proofs.Common.{◌≢◌, not}
use Rattle.std.specs.List.{list_any}
use Rattle.std.proofs.lemmas.Bool.{cases_Bool, and_parts}
use Rattle.finite_sets.proofs.Listings.{Lists-iff}
use Rattle.finite_sets.proofs.Searches.{list_any-passes, list_any-source}
use Rattle.geo_core.specs.Covering.{is_covered}
use Rattle.geo_core.proofs.CoveringLaws.{Covers-is_covered, is_covered-Covers}
use Rattle.offences.specs.LayoutModel.Places.{neighbours}
use Rattle.offences.specs.LayoutModel.Layouts.{Layout, IsMaterial}
use Rattle.offences.specs.LayoutModel.Measures.{area_at, perimeter_at, IsArea, IsPerimeter}
use Rattle.meeting_laws.specs.FloodNodes.Renumbered.{AreRenumbered}
use Rattle.meeting_laws.specs.FloodNodes.TileShares.{indices_of, shared_by, is_of, open_by_contacts}
use Rattle.meeting_laws.proofs.FloodNodes.OpenEdges.{tiles_area, tiles_measure}

-- The tiles have the same planes and areas, in their places.
pub record HaveSameAreas (tiles others : List RegionTile) : Type 0 where
  pub so_many : length others ≡ length tiles
  pub planes : (k : ℕ) → k < length tiles → (tile_at others k).plane ≡ (tile_at tiles k).plane
  pub areas : (k : ℕ) → k < length tiles → (tile_at others k).area ≡ (tile_at tiles k).area

-- they share the same edges
shared_same : (tiles others : List RegionTile) → HaveSameAreas tiles others → (i j : ℕ) → i < length tiles → j < length tiles
    → shared_by (tile_at others i) (tile_at others j) ≡ shared_by (tile_at tiles i) (tile_at tiles j)
shared_same tiles others same i j p q = λ k. shared_by
    (record { plane = same.planes i p k; area = same.areas i p k; kind = record { 0 = 0 }; region = 0 })
    (record { plane = same.planes j q k; area = same.areas j q k; kind = record { 0 = 0 }; region = 0 })

-- contacts are told by planes and areas alone
pub contacts_of_same : (tiles others : List RegionTile) (contacts : List Contact) → HaveSameAreas tiles others → Lists (IsTileContact tiles) contacts
    → Lists (IsTileContact others) contacts
contacts_of_same tiles others contacts same listed = Lists-iff (IsTileContact tiles) (IsTileContact others) contacts
    (λ c is. let order = is.in_order in let last = is.in_list in let many = same.so_many in record {
      in_order = order;
      in_list = omega (arith, last, many);
      length_is = is.length_is ∙ sym (shared_same tiles others same c.first c.second (omega (arith, order, last)) last);
      not_none = is.not_none;
    })
    (λ c is. let order = is.in_order in let many = same.so_many in let end = is.in_list in let last : c.second < length tiles = omega (arith, end, many) in
    record {
      in_order = order;
      in_list = last;
      length_is = is.length_is ∙ shared_same tiles others same c.first c.second (omega (arith, order, last)) last;
      not_none = is.not_none;
    })
    listed

-- Each place of a tile passes as the tile does, and each place that passes lies in a tile.
pub record IsTest (tiles : List RegionTile) (of : ℕ → Bool) (here : Place → Bool) : Type 0 where
  pub inside : (index : ℕ) (place : Place) → LiesIn tiles index place → here place ≡ of index
  pub every : (place : Place) → here place ≡ true → (index : ℕ) × LiesIn tiles index place

-- the place lies in a tile
abbrev pub stands : List RegionTile → Place → Bool
stands tiles place = list_any (λ tile. eqb place.plane tile.plane && is_covered tile.area place.square) tiles

pub lies_from_test : (tiles : List RegionTile) (place : Place) → stands tiles place ≡ true → (index : ℕ) × LiesIn tiles index place
lies_from_test tiles place e =
    let found = list_any-source (λ tile. eqb place.plane tile.plane && is_covered tile.area place.square) tiles e in
    let at = In-index found.0 tiles found.1.0 in
    let tests = and_parts (eqb place.plane found.0.plane) (is_covered found.0.area place.square) found.1.1 in (
      at.0,
      record {
        tile = found.0;
        there = slice_get-get_or tiles at.0 found.0 at.1.0 ∙ ap (λ (t : RegionTile). Some t) (at.1.1 found.0);
        plane = same_from_test place.plane found.0.plane tests.0;
        covers = Covers-is_covered found.0.area place.square tests.1;
      },
    )

pub test_from_lies : (tiles : List RegionTile) (index : ℕ) (place : Place) → LiesIn tiles index place → stands tiles place ≡ true
test_from_lies tiles index place lies =
    let within = slice_get_within tiles index lies.tile lies.there in
    let is = get_or_from_slice_get tiles index lies.tile lies.tile lies.there in
    list_any-passes (λ tile. eqb place.plane tile.plane && is_covered tile.area place.square) tiles lies.tile
    (subst (λ (t : RegionTile). In t tiles) is (In-get_or tiles index lies.tile within))
    (λ k. one_plane place.plane lies.tile.plane lies.plane k && is_covered-Covers lies.tile.area place.square lies.covers k)

-- what lies in tiles is a test that each tile passes
pub stands_test : (tiles : List RegionTile) → IsTest tiles (λ index. true) (stands tiles)
stands_test tiles = record { inside = test_from_lies tiles; every = lies_from_test tiles }

-- a type that tells whether something passes: 1 or 2
abbrev told_kind : Bool → ℕ
told_kind passes = cond passes 1 2

-- the same of a place: 0 where no tile stands
abbrev pub told_there : Bool → Bool → ℕ
told_there passes stood = cond passes 1 (cond stood 2 0)

abbrev pub is_one : ℕ → Bool
is_one kind = eqb kind 1

kind_there : (b here stood : Bool) → here ≡ b → stood ≡ true → told_there here stood ≡ told_kind b
kind_there true here stood passes stands = ap (λ (t : Bool). told_there t stood) passes
kind_there false here stood passes stands = ap (λ (t : Bool). told_there t stood) passes ∙ ap (λ (t : Bool). told_there false t) stands

kind_nowhere : (here stood : Bool) → here ≡ false → stood ≡ false → told_there here stood ≡ 0
kind_nowhere here stood fails empty = ap (λ (t : Bool). told_there t stood) fails ∙ ap (λ (t : Bool). told_there false t) empty

kind_some : (b : Bool) → told_kind b ≢ 0
kind_some true e = omega (arith, e)
kind_some false e = omega (arith, e)

module _ (tiles : List RegionTile) (spread : AreSpread tiles) (of : ℕ → Bool) (here : Place → Bool) (test : IsTest tiles of here) where
  -- a tile with a type that tells whether it passes: 1 or 2
  abbrev told : ℕ → RegionTile
  told i = record { plane = (tile_at tiles i).plane; area = (tile_at tiles i).area; kind = record { 0 = told_kind (of i) }; region = 0 }

  abbrev told_tiles : List RegionTile
  told_tiles = map told (indices_of tiles)

  -- the layout of these tiles
  abbrev pub told_layout : Layout
  told_layout place = told_there (here place) (stands tiles place)

  told_long : length told_tiles ≡ length tiles
  told_long = length-map (indices_of tiles) told ∙ length-range_with_len 0 (length tiles)

  told_at : (i : ℕ) (d : RegionTile) → i < length tiles → get_or told_tiles i d ≡ told i
  told_at i d below =
      let long = length-range_with_len 0 (length tiles) in
      let same : 0 + i ≡ i = omega arith in
      get_or-map told (indices_of tiles) i 0 d (omega (arith, below, long)) ∙ ap told (get_or-range_with_len 0 (length tiles) i 0 below ∙ same)

  told_areas : HaveSameAreas tiles told_tiles
  told_areas = record {
    so_many = told_long;
    planes = λ k below. ap (λ (t : RegionTile). t.plane) (told_at k no_tile below);
    areas = λ k below. ap (λ (t : RegionTile). t.area) (told_at k no_tile below);
  }

  -- the tile at an index, and the told one
  lies_told : (i : ℕ) (place : Place) → LiesIn tiles i place → LiesIn told_tiles i place
  lies_told i place lies =
      let below = slice_get_within tiles i lies.tile lies.there in
      let is = get_or_from_slice_get tiles i lies.tile no_tile lies.there in
      let long = told_long in
      record {
        tile = told i;
        there = slice_get-get_or told_tiles i no_tile (omega (arith, below, long)) ∙ ap (λ (t : RegionTile). Some t) (told_at i no_tile below);
        plane = lies.plane ∙ sym (ap (λ (t : RegionTile). t.plane) is);
        covers = subst (λ (t : RegionTile). Covers t.area place.square) (sym is) lies.covers;
      }

  -- the told tile at an index is this one
  told_is : (i : ℕ) (tile : RegionTile) → slice_get told_tiles i ≡ Some tile → told i ≡ tile
  told_is i tile there =
      let within = slice_get_within told_tiles i tile there in
      let long = told_long in
      sym (told_at i no_tile (omega (arith, within, long))) ∙ get_or_from_slice_get told_tiles i tile no_tile there

  told_lies : (i : ℕ) (place : Place) → LiesIn told_tiles i place → LiesIn tiles i place
  told_lies i place lies =
      let within = slice_get_within told_tiles i lies.tile lies.there in
      let long = told_long in
      let is = told_is i lies.tile lies.there in
      record {
        tile = tile_at tiles i;
        there = slice_get-get_or tiles i no_tile (omega (arith, within, long));
        plane = lies.plane ∙ sym (ap (λ (t : RegionTile). t.plane) is);
        covers = subst (λ (t : RegionTile). Covers t.area place.square) (sym is) lies.covers;
      }

  told_all : (P : RegionTile → Type 0) → ((i : ℕ) → i < length tiles → P (told i)) → All P told_tiles
  told_all P each = λ k d below.
      let long = told_long in
      let inside : k < length tiles = omega (arith, below, long) in
      subst P (sym (told_at k d inside)) (each k inside)

  told_every : (place : Place) → IsMaterial told_layout place → (index : ℕ) × LiesIn tiles index place
  told_every place material = elim (cases_Bool (here place)) [
    | inl passes ↦ test.every place passes
    | inr fails ↦ (elim (cases_Bool (stands tiles place)) [
      | inl stood ↦ lies_from_test tiles place stood
      | inr empty ↦ absurd (material (kind_nowhere (here place) (stands tiles place) fails empty))
    ])
  ]

  -- they are the tiles of their layout
  told_are : AreLayoutTiles told_layout told_tiles
  told_are = record {
    proper = told_all (λ t. IsProper t.area) (λ i below. spread.proper i no_tile below);
    near = told_all (λ t. IsNear t.area) (λ i below. spread.near i no_tile below);
    material = told_all (λ t. t.kind.0 ≢ 0) (λ i below. kind_some (of i));
    apart = λ i j d less below.
        let long = told_long in
        let last : j < length tiles = omega (arith, below, long) in
        subst (λ (a : RegionTile). LieApart a (get_or told_tiles j d)) (sym (told_at i d (omega (arith, less, last))))
        (subst (λ (b : RegionTile). LieApart (told i) b) (sym (told_at j d last)) (spread.apart i j no_tile less last));
    kinds = λ i place lies.
        let back = told_lies i place lies in
        kind_there (of i) (here place) (stands tiles place) (test.inside i place back) (test_from_lies tiles i place back)
        ∙ ap (λ (t : RegionTile). t.kind.0) (told_is i lies.tile lies.there);
    every = λ place material. let there = told_every place material in (there.0, lies_told there.0 place there.1);
  }

  -- a place passes where its told type is 1
  one_here : (place : Place) → is_one (told_layout place) ≡ here place
  one_here place = by_cases (here place) (stands tiles place)
    where
      by_cases : (p q : Bool) → is_one (told_there p q) ≡ p
      by_cases true q = refl
      by_cases false true = refl
      by_cases false false = refl

  one_of : (i : ℕ) → i < length tiles → is_of told_tiles is_one i ≡ of i
  one_of i below = ap (λ (t : RegionTile). eqb t.kind.0 1) (told_at i no_tile below) ∙ by_cases (of i)
    where
      by_cases : (p : Bool) → is_one (told_kind p) ≡ p
      by_cases true = refl
      by_cases false = refl

  indices_same : indices_of told_tiles ≡ indices_of tiles
  indices_same = ap (range_with_len 0) told_long

  told_in : (from : ℕ → Bool) (place : Place) → IsInTiles told_tiles from place → IsInTiles tiles from place
  told_in from place h = record { index = h.index; lies = told_lies h.index place h.lies; passes = h.passes }

  in_told : (from : ℕ → Bool) (place : Place) → IsInTiles tiles from place → IsInTiles told_tiles from place
  in_told from place h = record { index = h.index; lies = lies_told h.index place h.lies; passes = h.passes }

  gated_by : (m : RegionTile → ℤ) (p q : Bool) (a b : RegionTile) → p ≡ q → m a ≡ m b → cond p (m a) (pos 0) ≡ cond q (m b) (pos 0)
  gated_by m p q a b e f = λ k. cond (e k) (f k) (pos 0)

  -- sums of what told tiles count
  told_sum : (from : ℕ → Bool) (m : RegionTile → ℤ) → ((a b : RegionTile) → a.area ≡ b.area → m a ≡ m b)
      → sum_on (λ (i : ℕ). cond (from i && is_of told_tiles is_one i) (m (tile_at told_tiles i)) (pos 0)) (indices_of told_tiles)
      ≡ sum_on (λ (i : ℕ). cond (from i && of i) (m (tile_at tiles i)) (pos 0)) (indices_of tiles)
  told_sum from m by_area =
      ap (sum_on (λ (i : ℕ). cond (from i && is_of told_tiles is_one i) (m (tile_at told_tiles i)) (pos 0))) indices_same
      ∙ sum_on-same (λ (i : ℕ). cond (from i && is_of told_tiles is_one i) (m (tile_at told_tiles i)) (pos 0))
      (λ (i : ℕ). cond (from i && of i) (m (tile_at tiles i)) (pos 0)) (indices_of tiles)
      (λ i among. let below = (Lists-indices_of tiles).2 i among in
      gated_by m (from i && is_of told_tiles is_one i) (from i && of i) (tile_at told_tiles i) (tile_at tiles i) (λ k. from i && one_of i below k)
      (by_area (tile_at told_tiles i) (tile_at tiles i) (told_areas.areas i below)))

  -- the area of the places of some tiles that pass
  pub told_area : (from : ℕ → Bool)
      → IsArea is_one told_layout (IsInTiles tiles from)
      (sum_on (λ (i : ℕ). cond (from i && of i) (area_of (tile_at tiles i).area) (pos 0)) (indices_of tiles))
  told_area from =
      Total-at (IsInTiles tiles from) (area_at is_one told_layout) _ _ (told_sum from (λ t. area_of t.area) (λ a b e. ap area_of e))
      (Total-iff (IsInTiles told_tiles from) (IsInTiles tiles from) (area_at is_one told_layout) _ (told_in from) (in_told from)
      (tiles_area told_layout told_tiles is_one from told_are))

  pub tested_area : (from : ℕ → Bool)
      → Total (IsInTiles tiles from) (λ place. one_if (here place))
      (sum_on (λ (i : ℕ). cond (from i && of i) (area_of (tile_at tiles i).area) (pos 0)) (indices_of tiles))
  tested_area from =
      Total-same (IsInTiles tiles from) (area_at is_one told_layout) (λ place. one_if (here place)) _ (λ place h. ap one_if (one_here place)) (told_area from)

  -- the edges of a place that passes to places that do not
  abbrev pub open_at : Place → ℤ
  open_at place = cond (here place) (sum_on (λ neighbour. one_if (not (here neighbour))) (neighbours place)) (pos 0)

  open_is : (place : Place) → perimeter_at is_one told_layout place ≡ open_at place
  open_is place =
      ap (λ (t : Bool). cond t (sum_on (λ neighbour. one_if (not (is_one (told_layout neighbour)))) (neighbours place)) (pos 0)) (one_here place)
      ∙ ap (λ (n : ℤ). cond (here place) n (pos 0))
      (sum_on-same (λ neighbour. one_if (not (is_one (told_layout neighbour)))) (λ neighbour. one_if (not (here neighbour))) (neighbours place)
      (λ neighbour among. ap (λ (t : Bool). one_if (not t)) (one_here neighbour)))

  module _ (contacts : List Contact) (listed : Lists (IsTileContact tiles) contacts) (from : ℕ → Bool) where
    -- what two tiles share of those that pass, where the first is among some
    abbrev pub shared_from : (ℕ → Bool) → Contact → ℤ
    shared_from passes c =
        (one_if ((from c.first && passes c.first) && passes c.second) +ℤ one_if ((from c.second && passes c.second) && passes c.first)) *ℤ c.length

    told_shared : sum_on (shared_from (is_of told_tiles is_one)) contacts ≡ sum_on (shared_from of) contacts
    told_shared = sum_on-same (shared_from (is_of told_tiles is_one)) (shared_from of) contacts (λ c among.
        let is = listed.2 c among in let order = is.in_order in let last = is.in_list in
        let first = one_of c.first (omega (arith, order, last)) in
        let second = one_of c.second last in
        λ k. (one_if ((from c.first && first k) && second k) +ℤ one_if ((from c.second && second k) && first k)) *ℤ c.length)

    -- the edges of the places of some tiles that pass to places that do not
    pub told_edges : IsPerimeter is_one told_layout (IsInTiles tiles from) (open_by_contacts tiles contacts (λ i. from i && of i) of)
    told_edges =
        Total-at (IsInTiles tiles from) (perimeter_at is_one told_layout) _ (open_by_contacts tiles contacts (λ i. from i && of i) of)
        (λ k. told_sum from (λ t. perimeter_of t.area) (λ a b e. ap perimeter_of e) k -ℤ told_shared k)
        (Total-iff (IsInTiles told_tiles from) (IsInTiles tiles from) (perimeter_at is_one told_layout) _ (told_in from) (in_told from)
        (tiles_measure told_layout told_tiles contacts is_one from told_are (contacts_of_same tiles told_tiles contacts told_areas listed) refl))

    pub tested_edges : Total (IsInTiles tiles from) open_at (open_by_contacts tiles contacts (λ i. from i && of i) of)
    tested_edges = Total-same (IsInTiles tiles from) (perimeter_at is_one told_layout) open_at _ (λ place h. open_is place) told_edges
