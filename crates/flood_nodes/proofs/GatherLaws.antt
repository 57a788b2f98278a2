-- Tiles gathered plane by plane are the tiles of the layout, and their contacts those of all tiles.
use Rattle.flood_nodes.proofs.Common.{◌≡◌, ◌≢◌, inl, inr, ℕ, ◌+◌, ◌-◌, ◌<◌, ◌≤◌, Bool, true, false, cond, List, [], ◌++◌, map, length, get_or}
use Rattle.flood_nodes.proofs.Common.{Option, Some, None, IsTrue, refl, sym, ◌∙◌, ap, subst, arith, slice_get, nat_lt, All, AllPairs, cases_eq}
use Rattle.flood_nodes.proofs.Common.{cases_lt, nat_tests, ints, length-map, get_or-map, slice_get_within, slice_get-get_or, get_or_from_slice_get}
use Rattle.flood_nodes.proofs.Common.{Rect, IsNear, Covers, IsProper, is_covered, Covers-is_covered, is_covered-Covers, In, In-get_or, In-index}
use Rattle.flood_nodes.proofs.Common.{In-map_source, RawTech, TypeId, IsWellFormed, is_type, plane_of, Place, Layout, IsMaterial, seen_in, LiesIn}
use Rattle.flood_nodes.proofs.Common.{LieApart, AreLayoutTiles, RegionTile, AreTyped}
use Rattle.std.proofs.lemmas.List.{length-append, get_or_append_left, get_or-append-add}
use Rattle.std.proofs.lemmas.List.Elements.{All-append, All-nil}
use Rattle.geo_core.specs.Areas.{corner_of}
use Rattle.geo_core.proofs.FiniteSets.Searches.{All-from_In}
use Rattle.tech_model.specs.LayerTiles.{IsTileOf, AreTilesOf}
use Rattle.layout_model.specs.LayerTypes.{Kinds, AreTypesOf, or_space}
use Rattle.flood_nodes.specs.steps.Gathered.{tile_on, before_plane}

-- a list and then another, by places
module _ {X : Type 0} (xs ys : List X) where
  pub slice_left : (i : ℕ) (x : X) → slice_get (xs ++ ys) i ≡ Some x → i < length xs → slice_get xs i ≡ Some x
  slice_left i x there below =
      slice_get-get_or xs i x below ∙ ap (λ (v : X). Some v) (sym (get_or_append_left xs ys x i below) ∙ get_or_from_slice_get (xs ++ ys) i x x there)

  pub slice_right : (i : ℕ) (x : X) → slice_get (xs ++ ys) i ≡ Some x → length xs ≤ i → slice_get ys (i - length xs) ≡ Some x
  slice_right i x there past =
      let within = slice_get_within (xs ++ ys) i x there in
      let long = length-append xs ys in
      let k = i - length xs in
      let at : length xs + k ≡ i = omega arith in
      slice_get-get_or ys k x (omega (arith, within, long)) ∙ ap (λ (v : X). Some v) (sym (get_or-append-add xs ys k x)
      ∙ ap (λ (m : ℕ). get_or (xs ++ ys) m x) at ∙ get_or_from_slice_get (xs ++ ys) i x x there)

  pub left_slice : (i : ℕ) (x : X) → slice_get xs i ≡ Some x → slice_get (xs ++ ys) i ≡ Some x
  left_slice i x there =
      let below = slice_get_within xs i x there in
      let long = length-append xs ys in
      slice_get-get_or (xs ++ ys) i x (omega (arith, below, long)) ∙ ap (λ (v : X). Some v) (get_or_append_left xs ys x i below
      ∙ get_or_from_slice_get xs i x x there)

  pub right_slice : (k : ℕ) (x : X) → slice_get ys k ≡ Some x → slice_get (xs ++ ys) (length xs + k) ≡ Some x
  right_slice k x there =
      let below = slice_get_within ys k x there in
      let long = length-append xs ys in
      slice_get-get_or (xs ++ ys) (length xs + k) x (omega (arith, below, long)) ∙ ap (λ (v : X). Some v) (get_or-append-add xs ys k x
      ∙ get_or_from_slice_get ys k x x there)

  pub AllPairs-append : (R : X → X → Type 0) → AllPairs R xs → AllPairs R ys → ((a b : X) → In a xs → In b ys → R a b) → AllPairs R (xs ++ ys)
  AllPairs-append R p q cross = λ i j d less within.
      let long = length-append xs ys in
      elim (cases_lt j (length xs)) [
        | inl first ↦ subst (λ (a : X). R a (get_or (xs ++ ys) j d)) (sym (get_or_append_left xs ys d i (omega arith)))
            (subst (λ (b : X). R (get_or xs i d) b) (sym (get_or_append_left xs ys d j first)) (p i j d less first))
        | inr past ↦
            (let l = j - length xs in
            let at_j : length xs + l ≡ j = omega arith in
            let second : get_or ys l d ≡ get_or (xs ++ ys) j d = sym (get_or-append-add xs ys l d) ∙ ap (λ (m : ℕ). get_or (xs ++ ys) m d) at_j in
            elim (cases_lt i (length xs)) [
              | inl first ↦ subst (λ (a : X). R a (get_or (xs ++ ys) j d)) (sym (get_or_append_left xs ys d i first))
                  (subst (λ (b : X). R (get_or xs i d) b) second (cross (get_or xs i d) (get_or ys l d) (In-get_or xs i d first)
                  (In-get_or ys l d (omega (arith, long, within)))))
              | inr both ↦
                  (let k = i - length xs in
                  let at_i : length xs + k ≡ i = omega arith in
                  let begin : get_or ys k d ≡ get_or (xs ++ ys) i d = sym (get_or-append-add xs ys k d) ∙ ap (λ (m : ℕ). get_or (xs ++ ys) m d) at_i in
                  subst (λ (a : X). R a (get_or (xs ++ ys) j d)) begin (subst (λ (b : X). R (get_or ys k d) b) second
                  (q k l d (omega arith) (omega (arith, long, within)))))
            ])
      ]

-- What is gathered of the planes before this one: their tiles, plane by plane.
pub record HasGathered (plane : ℕ) (layout : Layout) (tiles : List RegionTile) : Type 0 where
  pub are : AreLayoutTiles (before_plane plane layout) tiles
  pub planes : All (λ tile. tile.plane < plane) tiles
  pub by_plane : AllPairs (λ a b. a.plane ≤ b.plane) tiles

below_test : (m n : ℕ) → m < n → nat_lt m n ≡ true
below_test m n h = grind (arith, nat_tests)

above_test : (m n : ℕ) → n ≤ m → nat_lt m n ≡ false
above_test m n h = grind (arith, nat_tests)

-- before the plane the layout is the whole one
before_is : (plane : ℕ) (layout : Layout) (place : Place) → place.plane < plane → before_plane plane layout place ≡ layout place
before_is plane layout place h = ap (λ (t : Bool). cond t (layout place) 0) (below_test place.plane plane h)

before_none : (plane : ℕ) (layout : Layout) (place : Place) → plane ≤ place.plane → before_plane plane layout place ≡ 0
before_none plane layout place h = ap (λ (t : Bool). cond t (layout place) 0) (above_test place.plane plane h)

-- what is seen in an area
seen_at : (area : Rect) (kinds : Kinds) (place : Place) → Covers area place.square → seen_in area kinds place ≡ or_space (kinds place.plane place.square)
seen_at area kinds place covers = ap (λ (t : Bool). cond t (or_space (kinds place.plane place.square)) 0) (is_covered-Covers area place.square covers)

-- The type of the place is defined, and lies in the area.
pub record IsSeen (area : Rect) (kinds : Kinds) (place : Place) : Type 0 where
  pub covers : Covers area place.square
  pub kind : ℕ
  pub is : kinds place.plane place.square ≡ Some kind
  pub material : kind ≢ 0
  pub seen : seen_in area kinds place ≡ kind

pub seen_material : (area : Rect) (kinds : Kinds) (place : Place) → seen_in area kinds place ≢ 0 → IsSeen area kinds place
seen_material area kinds place material = at (is_covered area place.square) refl
  where
    defined : Covers area place.square → (found : Option ℕ) → kinds place.plane place.square ≡ found → IsSeen area kinds place
    defined covers None e = absurd (material (seen_at area kinds place covers ∙ ap or_space e))
    defined covers (Some kind) e =
        let seen = seen_at area kinds place covers ∙ ap or_space e in
        record { covers = covers; kind = kind; is = e; material = (λ none. material (seen ∙ none)); seen = seen }

    at : (test : Bool) → is_covered area place.square ≡ test → IsSeen area kinds place
    at true e = defined (Covers-is_covered area place.square e) (kinds place.plane place.square) refl
    at false e = absurd (material (ap (λ (t : Bool). cond t (or_space (kinds place.plane place.square)) 0) e))

module _ (area : Rect) (kinds : Kinds) (plane : ℕ) (found : List (Rect × TypeId)) (xs : List RegionTile) (near : IsNear area)
    (had : HasGathered plane (seen_in area kinds) xs) (are : AreTilesOf (kinds plane) area found) where
  abbrev ys : List RegionTile
  ys = map (tile_on plane) found

  -- a tile of the plane
  is_found : (tile : RegionTile) → In tile ys → (item : Rect × TypeId) × (IsTileOf (kinds plane) area item × (tile_on plane item ≡ tile))
  is_found tile i = let s = In-map_source (tile_on plane) tile found i in (s.0, (are.each s.0 s.1.0, s.1.1))

  old_plane : (tile : RegionTile) → In tile xs → tile.plane < plane
  old_plane tile i = let x = In-index tile xs i in subst (λ (t : RegionTile). t.plane < plane) (x.1.1 tile) (had.planes x.0 tile x.1.0)

  near_tile : (item : Rect × TypeId) → IsTileOf (kinds plane) area item → IsNear item.0
  near_tile item is =
      let a = is.inside.right_of_xlo in let b = is.inside.above_ylo in let c = is.inside.left_of_xhi in let d = is.inside.below_yhi in
      let w = is.proper.wide in let h = is.proper.high in
      let xl = near.xlo in let yl = near.ylo in let xh = near.xhi in let yh = near.yhi in
      record {
        xlo = (omega (arith, ints, a, xl.0), omega (arith, ints, c, w, xh.1));
        ylo = (omega (arith, ints, b, yl.0), omega (arith, ints, d, h, yh.1));
        xhi = (omega (arith, ints, a, w, xl.0), omega (arith, ints, c, xh.1));
        yhi = (omega (arith, ints, b, h, yl.0), omega (arith, ints, d, yh.1));
      }

  new_apart : AllPairs LieApart ys
  new_apart = λ i j d less within.
      let long = length-map found (tile_on plane) in
      let e : Rect × TypeId = (d.area, d.kind) in
      let first = get_or-map (tile_on plane) found i e d (omega (arith, long, within)) in
      let second = get_or-map (tile_on plane) found j e d (omega (arith, long, within)) in
      subst (λ (a : RegionTile). LieApart a (get_or ys j d)) (sym first) (subst (λ (b : RegionTile). LieApart (tile_on plane (get_or found i e)) b) (sym second)
      (λ same. are.apart i j e less (omega (arith, long, within))))

  at_place : (place : Place) (tile : RegionTile) → In tile ys → place.plane ≡ tile.plane → Covers tile.area place.square
      → seen_in area kinds place ≡ tile.kind.0
  at_place place tile i same covers =
      let f = is_found tile i in
      let item = f.0 in
      let on : place.plane ≡ plane = same ∙ sym (ap (λ (t : RegionTile). t.plane) f.1.1) in
      let in_item : Covers item.0 place.square = subst (λ (t : RegionTile). Covers t.area place.square) (sym f.1.1) covers in
      let is = f.1.0.squares place.square in_item in
      let inside = f.1.0.inside in
      let a = inside.right_of_xlo in let b = inside.above_ylo in let c = inside.left_of_xhi in let d = inside.below_yhi in
      let p = in_item.right_of_xlo in let q = in_item.left_of_xhi in let r = in_item.above_ylo in let s = in_item.below_yhi in
      seen_at area kinds place (record {
        right_of_xlo = omega (arith, ints, a, p);
        left_of_xhi = omega (arith, ints, c, q);
        above_ylo = omega (arith, ints, b, r);
        below_yhi = omega (arith, ints, d, s);
      })
      ∙ ap or_space (ap (λ (k : ℕ). kinds k place.square) on ∙ is) ∙ ap (λ (t : RegionTile). t.kind.0) f.1.1

  more_kinds : (index : ℕ) (place : Place) → (lies : LiesIn (xs ++ ys) index place) → before_plane (plane + 1) (seen_in area kinds) place ≡ lies.tile.kind.0
  more_kinds index place lies = elim (cases_lt index (length xs)) [
    | inl first ↦
        (let there = slice_left xs ys index lies.tile lies.there first in
        let low : place.plane < plane = (let on = lies.plane in let t = had.planes index lies.tile first in
        let is = get_or_from_slice_get xs index lies.tile lies.tile there in
        let below : lies.tile.plane < plane = subst (λ (t : RegionTile). t.plane < plane) is t in omega (arith, on, below)) in
        before_is (plane + 1) (seen_in area kinds) place (omega arith) ∙ sym (before_is plane (seen_in area kinds) place low)
        ∙ had.are.kinds index place (record { tile = lies.tile; there = there; plane = lies.plane; covers = lies.covers }))
    | inr past ↦
        (let there = slice_right xs ys index lies.tile lies.there past in
        let k = index - length xs in
        let i : In lies.tile ys = subst (λ (t : RegionTile). In t ys) (get_or_from_slice_get ys k lies.tile lies.tile there)
        (In-get_or ys k lies.tile (slice_get_within ys k lies.tile there)) in
        let on : plane ≡ lies.tile.plane = ap (λ (t : RegionTile). t.plane) (is_found lies.tile i).1.1 in
        let same = lies.plane in
        before_is (plane + 1) (seen_in area kinds) place (omega (arith, on, same)) ∙ at_place place lies.tile i lies.plane lies.covers)
  ]

  more_every : (place : Place) → IsMaterial (before_plane (plane + 1) (seen_in area kinds)) place → (index : ℕ) × LiesIn (xs ++ ys) index place
  more_every place material = elim (cases_lt place.plane plane) [
    | inl low ↦
        (let there = had.are.every place (λ none. material (before_is (plane + 1) (seen_in area kinds) place (omega arith)
        ∙ sym (before_is plane (seen_in area kinds) place low) ∙ none)) in
        (there.0, record { tile = there.1.tile; there = left_slice xs ys there.0 there.1.tile there.1.there; plane = there.1.plane; covers = there.1.covers }))
    | inr no_low ↦ (elim (cases_lt plane place.plane) [
      | inl high ↦ absurd (material (before_none (plane + 1) (seen_in area kinds) place (omega arith)))
      | inr no_high ↦
          (let on : place.plane ≡ plane = omega arith in
          let seen = seen_material area kinds place (λ none. material (before_is (plane + 1) (seen_in area kinds) place (omega arith) ∙ none)) in
          let t = are.every place.square seen.kind seen.covers (ap (λ (k : ℕ). kinds k place.square) (sym on) ∙ seen.is) seen.material in
          let x = In-index t.0 found t.1.0 in
          let is : get_or ys x.0 (tile_on plane t.0) ≡ tile_on plane t.0 =
          get_or-map (tile_on plane) found x.0 t.0 (tile_on plane t.0) x.1.0 ∙ ap (tile_on plane) (x.1.1 t.0) in
          let long = length-map found (tile_on plane) in
          let there : slice_get ys x.0 ≡ Some (tile_on plane t.0) = slice_get-get_or ys x.0 (tile_on plane t.0) (omega (arith, long, x.1.0))
          ∙ ap (λ (v : RegionTile). Some v) is in
          (length xs + x.0, record { tile = tile_on plane t.0; there = right_slice xs ys x.0 (tile_on plane t.0) there; plane = on; covers = t.1.1 }))
    ])
  ]

  more_tiles : AreLayoutTiles (before_plane (plane + 1) (seen_in area kinds)) (xs ++ ys)
  more_tiles = record {
    proper = All-append (λ (t : RegionTile). IsProper t.area) xs ys had.are.proper
        (All-from_In (λ (t : RegionTile). IsProper t.area) ys (λ t i. let f = is_found t i in subst (λ (v : RegionTile). IsProper v.area) f.1.1 f.1.0.proper));
    near = All-append (λ (t : RegionTile). IsNear t.area) xs ys had.are.near
        (All-from_In (λ (t : RegionTile). IsNear t.area) ys (λ t i. let f = is_found t i in
        subst (λ (v : RegionTile). IsNear v.area) f.1.1 (near_tile f.0 f.1.0)));
    material = All-append (λ (t : RegionTile). t.kind.0 ≢ 0) xs ys had.are.material
        (All-from_In (λ (t : RegionTile). t.kind.0 ≢ 0) ys (λ t i. let f = is_found t i in subst (λ (v : RegionTile). v.kind.0 ≢ 0) f.1.1 f.1.0.material));
    apart = AllPairs-append xs ys LieApart had.are.apart new_apart (λ a b i j same.
        absurd (let low = old_plane a i in let on : plane ≡ b.plane = ap (λ (t : RegionTile). t.plane) (is_found b j).1.1 in omega (arith, low, on, same)));
    kinds = more_kinds;
    every = more_every;
  }

  more_planes : All (λ (t : RegionTile). t.plane < plane + 1) (xs ++ ys)
  more_planes = All-append (λ (t : RegionTile). t.plane < plane + 1) xs ys
      (All-from_In (λ (t : RegionTile). t.plane < plane + 1) xs (λ t i. let low = old_plane t i in omega (arith, low)))
      (All-from_In (λ (t : RegionTile). t.plane < plane + 1) ys (λ t i. let on : plane ≡ t.plane = ap (λ (v : RegionTile). v.plane) (is_found t i).1.1 in
      omega (arith, on)))

  more_by_plane : AllPairs (λ (a b : RegionTile). a.plane ≤ b.plane) (xs ++ ys)
  more_by_plane = AllPairs-append xs ys (λ (a b : RegionTile). a.plane ≤ b.plane) had.by_plane
      (λ i j d less within. let first = on_plane i d (omega (arith, less, within)) in let second = on_plane j d within in omega (arith, first, second))
      (λ a b i j. let low = old_plane a i in let on : plane ≡ b.plane = ap (λ (t : RegionTile). t.plane) (is_found b j).1.1 in omega (arith, low, on))
    where
      on_plane : (k : ℕ) (d : RegionTile) → k < length ys → plane ≡ (get_or ys k d).plane
      on_plane k d below = ap (λ (t : RegionTile). t.plane) (is_found (get_or ys k d) (In-get_or ys k d below)).1.1

  -- one plane more is gathered
  pub gathered_more : HasGathered (plane + 1) (seen_in area kinds) (xs ++ ys)
  gathered_more = record { are = more_tiles; planes = more_planes; by_plane = more_by_plane }

-- nothing is gathered at first
pub gathered_none : (layout : Layout) (tiles : List RegionTile) → tiles ≡ [] → HasGathered 0 layout tiles
gathered_none layout tiles none = subst (HasGathered 0 layout) (sym none) (record {
  are = record {
    proper = All-nil (λ (t : RegionTile). IsProper t.area);
    near = All-nil (λ (t : RegionTile). IsNear t.area);
    material = All-nil (λ (t : RegionTile). t.kind.0 ≢ 0);
    apart = λ i j d less within. absurd (omega arith);
    kinds = λ i place lies. absurd (let within = slice_get_within [] i lies.tile lies.there in omega (arith, within));
    every = λ place material. absurd (material (before_none 0 layout place (omega arith)));
  };
  planes = All-nil (λ (t : RegionTile). t.plane < 0);
  by_plane = λ i j d less within. absurd (omega arith);
})

-- the same places have the same types
AreLayoutTiles-same : (layout other : Layout) (tiles : List RegionTile) → ((place : Place) → layout place ≡ other place) → AreLayoutTiles layout tiles
    → AreLayoutTiles other tiles
AreLayoutTiles-same layout other tiles same are = record {
  proper = are.proper;
  near = are.near;
  material = are.material;
  apart = are.apart;
  kinds = λ i place lies. sym (same place) ∙ are.kinds i place lies;
  every = λ place material. are.every place (λ none. material (sym (same place) ∙ none));
}

-- all planes that have types are gathered
pub gathered_all : (raw : RawTech) (area : Rect) (kinds : Kinds) (plane : ℕ) (tiles : List RegionTile) → IsWellFormed raw → AreTypesOf raw kinds
    → length raw.planes ≤ plane → HasGathered plane (seen_in area kinds) tiles → AreLayoutTiles (seen_in area kinds) tiles
gathered_all raw area kinds plane tiles well types past had =
    AreLayoutTiles-same (before_plane plane (seen_in area kinds)) (seen_in area kinds) tiles same had.are
  where
    beyond : (place : Place) → plane ≤ place.plane → seen_in area kinds place ≢ 0 → ⊥
    beyond place far material =
        let seen = seen_material area kinds place material in
        let type = types place.plane place.square seen.kind seen.is seen.material in
        let last = well.type_planes seen.kind type.0 in
        let on = type.1 in
        omega (arith, last, on, far, past)

    same : (place : Place) → before_plane plane (seen_in area kinds) place ≡ seen_in area kinds place
    same place = elim (cases_lt place.plane plane) [
      | inl low ↦ before_is plane (seen_in area kinds) place low
      | inr high ↦ before_none plane (seen_in area kinds) place high ∙ sym (elim (cases_eq (seen_in area kinds place) 0) [
        | inl none ↦ none
        | inr some ↦ absurd (beyond place high some)
      ])
    ]

-- each tile is of a type of the technology, on its plane
pub gathered_typed : (raw : RawTech) (area : Rect) (kinds : Kinds) (tiles : List RegionTile) → AreTypesOf raw kinds
    → AreLayoutTiles (seen_in area kinds) tiles → AreTyped raw tiles
gathered_typed raw area kinds tiles types are = λ i d below.
    let tile = get_or tiles i d in
    let there = slice_get-get_or tiles i d below in
    let proper = are.proper i d below in
    let place : Place = record { plane = tile.plane; square = corner_of tile.area } in
    let wide = proper.wide in let high = proper.high in
    let covers : Covers tile.area place.square = record {
      right_of_xlo = omega (arith, ints);
      left_of_xhi = wide;
      above_ylo = omega (arith, ints);
      below_yhi
          = high;
    } in
    let kind = are.kinds i place (record { tile = tile; there = there; plane = refl; covers = covers }) in
    let seen = seen_material area kinds place (λ none. are.material i d below (sym kind ∙ none)) in
    let same : seen.kind ≡ tile.kind.0 = sym seen.seen ∙ kind in
    let type = types place.plane place.square seen.kind seen.is seen.material in
    (subst (λ (k : ℕ). IsTrue (is_type raw k)) same type.0, ap (plane_of raw) (sym same) ∙ type.1)
