-- Parts that are given as layers: their tiles make their sets, and offences depend on the sets nearby alone.
use Rattle.offences.proofs.Common.{◌≡◌, ◌≢◌, ◌⊎◌, inl, inr, ◌+◌, ◌<◌, ◌≤◌, ◌==◌, ℕ, Bool, bit_or, cond, ℤ, pos, ◌+ℤ◌, ◌<ℤ◌, ◌≤ℤ◌, List, [], ◌∷◌}
use Rattle.offences.proofs.Common.{◌++◌, length, map, take, get_or, refl, sym, ap, subst, ◌∙◌, arith, All, Option, Some, None, slice_get, ◌&&◌}
use Rattle.offences.proofs.Common.{bit_at, list_any, option_map, cases_Bool, cases_eq, both_ways, and_parts, and_from, eq-eqb, eqb-true, ints}
use Rattle.offences.proofs.Common.{length-map, take_more, take_all, map-append, slice_get_within, slice_get-get_or, slice_get-map, In}
use Rattle.offences.proofs.Common.{In-append_left, In-append_right, In-append_cases, In-map, In-map_source, list_any-In, All-from_In}
use Rattle.offences.proofs.Common.{list_any-source, Square, Rect, widened, IsNear, common_rect, Covers, IsProper, is_covered, Covers-is_covered}
use Rattle.offences.proofs.Common.{is_covered-Covers, covers_first, covers_second, covers_both, TypeId, RawTech, joined, IsWellFormed, Kinds, Place}
use Rattle.offences.proofs.Common.{SetTile, layer_tile, ArePartTiles, SetLayout, joined_at, flat_type, union_of, HasKind, OffendsOn, HaveTypes}
use Rattle.offences.proofs.Common.{CoverExactly, role_of, AreTilesOfParts, tile_part, tile_parts, set_layout, on_plane}
use Rattle.std.proofs.lemmas.List.{get_or-map, same_lists, length-take-le}
use Rattle.std.proofs.lemmas.List.FromFn.{get_or-map-range_with_len}
use Rattle.geo_core.proofs.FiniteSets.Places.{slice_get-append_left, slice_get-push_new, slice_get-push_cases}
use Rattle.geo_core.specs.Areas.{LiesWithin}
use Rattle.geo_core.specs.Neighbours.{AreEdgeNeighbours, AreOneApart}
use Rattle.geo_core.proofs.CoveringLaws.{covers_widened}
use Rattle.tech_model.specs.LayerTiles.{AreTilesOf}
use Rattle.tech_model.specs.Rules.{KeepsRules}
use Rattle.tech_model.specs.Types.{parts_of}
use Rattle.tech_model.proofs.JoinedLaws.{joined-type}
use Rattle.tech_model.proofs.SetLaws.{set_not_empty}
use Rattle.layout_model.specs.LayerTypes.{AreTypesOf, or_space}
use Rattle.layout_model.specs.Places.{AreNeighbours}
use Rattle.offences.specs.steps.LayerParts.{IsPartTile}
use Rattle.offences.specs.Offences.{is_exactly, parts_with, Offends}
use Rattle.offences.proofs.TileLaws.{part_bit, part_kept, part_at, length-parts}
use Rattle.offences.proofs.UnionLaws.{same_sets, no_part}

-- ---- offences depend on what parts have nearby

-- what the parts have at a place, in order
abbrev pub values_at : List SetLayout → Place → List ℕ
values_at parts place = map (λ part. part place) parts

union_value : List ℕ → ℕ
union_value [] = 0
union_value (value ∷ values) = bit_or value (union_value values)

union_by_values : (parts : List SetLayout) (place : Place) → union_of parts place ≡ union_value (values_at parts place)
unfolding union_value
union_by_values [] place = refl
union_by_values (part ∷ parts) place = ap (bit_or (part place)) (union_by_values parts place)

values_with : RawTech → ℕ → ℕ → List ℕ → ℕ
values_with raw plane kind [] = 0
values_with raw plane kind (value ∷ values) = cond (is_exactly kind (joined raw plane value)) 1 0 + values_with raw plane kind values

with_by_values : (raw : RawTech) (parts : List SetLayout) (place : Place) (kind : ℕ)
    → parts_with raw parts place kind ≡ values_with raw place.plane kind (values_at parts place)
unfolding values_with
with_by_values raw [] place kind = refl
with_by_values raw (part ∷ parts) place kind =
    ap (λ (n : ℕ). cond (is_exactly kind (joined_at raw part place)) 1 0 + n) (with_by_values raw parts place kind)

some_same : (a b : ℕ) → Some a ≡ Some b → a ≡ b
some_same a b e = cc

no_such : (n : ℕ) → None ≡ Some n → ⊥
no_such n e = absurd (cc)

-- both lists of parts have the same at the place
abbrev pub AgreeAt : List SetLayout → List SetLayout → Place → Type 0
AgreeAt parts others place = values_at parts place ≡ values_at others place

module _ (parts others : List SetLayout) where
  value_there : (position : ℕ) (part other : SetLayout) (place : Place) → AgreeAt parts others place → slice_get parts position ≡ Some part
      → slice_get others position ≡ Some other → part place ≡ other place
  value_there position part other place agree p q =
      let value : SetLayout → ℕ = λ l. l place in
      some_same (part place) (other place)
      (sym (slice_get-map value parts position ∙ ap (option_map value) p) ∙ ap (λ (l : List ℕ). slice_get l position) agree
      ∙ slice_get-map value others position ∙ ap (option_map value) q)

  found_other : (position : ℕ) (place : Place) (n : ℕ) (found : Option SetLayout) → slice_get others position ≡ found
      → option_map (λ (l : SetLayout). l place) found ≡ Some n → (other : SetLayout) × (slice_get others position ≡ Some other)
  found_other position place n (Some other) e is = (other, e)
  found_other position place n None e is = absurd (no_such n is)

  other_there : (position : ℕ) (part : SetLayout) (place : Place) → AgreeAt parts others place → slice_get parts position ≡ Some part
      → (other : SetLayout) × (slice_get others position ≡ Some other)
  other_there position part place agree p =
      let value : SetLayout → ℕ = λ l. l place in
      found_other position place (part place) (slice_get others position) refl
      (sym (slice_get-map value others position) ∙ sym (ap (λ (l : List ℕ). slice_get l position) agree)
      ∙ slice_get-map value parts position ∙ ap (option_map value) p)

  module _ (raw : RawTech) (place : Place) (agree : AgreeAt parts others place) where
    flat_same : flat_type raw others place ≡ flat_type raw parts place
    flat_same = ap (joined raw place.plane) (union_by_values others place ∙ sym (ap union_value agree) ∙ sym (union_by_values parts place))

    with_same : (kind : ℕ) → parts_with raw others place kind ≡ parts_with raw parts place kind
    with_same kind = with_by_values raw others place kind ∙ sym (ap (values_with raw place.plane kind) agree)
        ∙ sym (with_by_values raw parts place kind)

    has_same : (position kind : ℕ) → HasKind raw parts position place kind → HasKind raw others position place kind
    has_same position kind has =
        let other = other_there position has.part place agree has.there in
        record {
          part = other.0;
          there = other.1;
          is = ap (joined raw place.plane) (sym (value_there position has.part other.0 place agree has.there other.1)) ∙ has.is;
        }

    -- what offends for one list of parts offends for another that has the same there and beside
    pub offends_same : ((beside : Place) → AreNeighbours place beside → AgreeAt parts others beside) → Offends raw parts place
        → Offends raw others place
    offends_same near (inl none) = inl (flat_same ∙ none)
    offends_same near (inr (inl h)) = inr (inl (record {
      position = h.position;
      kind = h.kind;
      has = has_same h.position h.kind h.has;
      material = h.material;
      outside = λ flat is. h.outside flat (sym flat_same ∙ is);
    }))
    offends_same near (inr (inr (inl h))) = inr (inr (inl (record {
      fet = h.fet;
      flat = flat_same ∙ h.flat;
      channel = h.channel;
      count = λ one. h.count (sym (with_same h.fet) ∙ one);
    })))
    offends_same near (inr (inr (inr (inl h)))) = inr (inr (inr (inl (record {
      position = h.position;
      fet = h.fet;
      has = has_same h.position h.fet h.has;
      channel = h.channel;
      flat = λ is. h.flat (sym flat_same ∙ is);
    }))))
    offends_same near (inr (inr (inr (inr h)))) =
        let other = other_there h.position h.has.part place agree h.has.there in
        let there = near h.beside h.neighbour in
        let flat' : flat_type raw others h.beside ≡ flat_type raw parts h.beside = flat_beside h.beside there in
        let type' : joined_at raw other.0 h.beside ≡ joined_at raw h.has.part h.beside =
        ap (joined raw h.beside.plane) (sym (value_there h.position h.has.part other.0 h.beside there h.has.there other.1)) in
        inr (inr (inr (inr (record {
          fet = h.fet;
          flat = flat_same ∙ h.flat;
          channel = h.channel;
          position = h.position;
          has = record {
            part = other.0;
            there = other.1;
            is = ap (joined raw place.plane) (sym (value_there h.position h.has.part other.0 place agree h.has.there other.1)) ∙ h.has.is;
          };
          beside = h.beside;
          neighbour = h.neighbour;
          differs = λ same. h.differs (ap (role_of raw h.fet) (sym flat') ∙ same ∙ ap (role_of raw h.fet) type');
        }))))
      where
        flat_beside : (beside : Place) → AgreeAt parts others beside → flat_type raw others beside ≡ flat_type raw parts beside
        flat_beside beside there = ap (joined raw beside.plane) (union_by_values others beside ∙ sym (ap union_value there)
            ∙ sym (union_by_values parts beside))

-- ---- tiles of layers

module _ (raw : RawTech) (plane : ℕ) (area : Rect) where
  -- before the first part
  pub no_part_tiles : (tiles : List SetTile) → tiles ≡ [] → ArePartTiles raw plane area [] tiles
  no_part_tiles tiles none = subst (ArePartTiles raw plane area []) (sym none) (record {
    each = λ tile h. absurd h;
    every = λ part kinds there square kind c is n. absurd (nothing_at kinds part there);
  })
    where
      nothing_at : (kinds : Kinds) (part : ℕ) → slice_get [] part ≡ Some kinds → ⊥
      nothing_at kinds part e = absurd (cc)

  -- and with the tiles of one more
  pub more_part_tiles : (parts : List Kinds) (tiles : List SetTile) (kinds : Kinds) (found : List (Rect × TypeId))
      → ArePartTiles raw plane area parts tiles
      → AreTilesOf (kinds plane) area found → ArePartTiles raw plane area (parts ++ kinds ∷ []) (tiles ++ map (layer_tile raw (length parts)) found)
  more_part_tiles parts tiles kinds found so_far are = record {
    each = λ tile h. elim (In-append_cases tile tiles (map (layer_tile raw (length parts)) found) h) [
      | inl k ↦ (
          let is = so_far.each tile k in
          record {
            kinds = is.kinds;
            there = slice_get-append_left parts (kinds ∷ []) tile.part is.kinds is.there;
            proper = is.proper;
            inside = is.inside;
            kind = is.kind;
            set = is.set;
            squares = is.squares;
          })
      | inr k ↦ (
          let source = In-map_source (layer_tile raw (length parts)) tile found k in
          let of = are.each source.0 source.1.0 in
          subst (IsPartTile raw plane area (parts ++ kinds ∷ [])) source.1.1 (record {
            kinds = kinds;
            there = slice_get-push_new parts kinds;
            proper = of.proper;
            inside = of.inside;
            kind = source.0.1.0;
            set = refl;
            squares = of.squares;
          }))
    ];
    every = λ part others there square kind covers is material. elim (slice_get-push_cases parts kinds others part there) [
      | inl h ↦ (
          let tile = so_far.every part others h square kind covers is material in
          (tile.0, (In-append_left tile.0 tiles (map (layer_tile raw (length parts)) found) tile.1.0, tile.1.1, tile.1.2)))
      | inr h ↦ (
          let tile = are.every square kind covers (ap (λ (k : Kinds). k plane square) h.1 ∙ is) material in (
            layer_tile raw (length parts) tile.0,
            (
              In-append_right (layer_tile raw (length parts) tile.0) tiles (map (layer_tile raw (length parts)) found)
                  (In-map (layer_tile raw (length parts)) tile.0 found tile.1.0),
              sym h.0,
              tile.1.1,
            ),
          ))
    ];
  }

  module _ {X : Type 0} (kind : X → Kinds) (xs : List X) (i : ℕ) where
    -- one more part of a list
    pub next_part_tiles : (x : X) → i < length xs → x ≡ get_or xs i x → (tiles after : List SetTile) (found : List (Rect × TypeId))
        → ArePartTiles raw plane area (map kind (take i xs)) tiles → AreTilesOf (kind x plane) area found
        → after ≡ tiles ++ map (layer_tile raw i) found
        → ArePartTiles raw plane area (map kind (take (i + 1) xs)) after
    next_part_tiles x less is tiles after found so_far are made =
        let parts = map kind (take i xs) in
        let long : length parts ≡ i = length-map (take i xs) kind ∙ length-take-le i xs (omega arith) in
        let more : map kind (take (i + 1) xs) ≡ parts ++ kind x ∷ [] =
        ap (map kind) (take_more xs i x less) ∙ map-append kind (take i xs) (get_or xs i x ∷ []) ∙ ap (λ (y : X). parts ++ kind y ∷ []) (sym is) in
        let all : after ≡ tiles ++ map (layer_tile raw (length parts)) found = made ∙ ap (λ (n : ℕ). tiles ++ map (layer_tile raw n) found) (sym long) in
        subst (λ (ks : List Kinds). ArePartTiles raw plane area ks after) (sym more)
        (subst (ArePartTiles raw plane area (parts ++ kind x ∷ [])) (sym all) (more_part_tiles parts tiles (kind x) found so_far are))

    -- past the last part
    pub all_part_tiles : length xs ≤ i → (tiles : List SetTile) → ArePartTiles raw plane area (map kind (take i xs)) tiles
        → ArePartTiles raw plane area (map kind xs) tiles
    all_part_tiles past tiles so_far = subst (λ (ys : List X). ArePartTiles raw plane area (map kind ys) tiles) (take_all i xs past) so_far

-- a type of the plane is the one with its set, and space is the one with none
set_is_type : (raw : RawTech) → IsWellFormed raw → KeepsRules raw → (kinds : Kinds) → AreTypesOf raw kinds → (plane : ℕ) (square : Square) (kind : ℕ)
    → kinds plane square ≡ Some kind → joined raw plane (parts_of raw kind) ≡ Some kind
set_is_type raw formed rules kinds types plane square kind is = elim (cases_eq kind 0) [
  | inl space ↦ ap (λ (k : ℕ). joined raw plane (parts_of raw k)) space ∙ ap Some (sym space)
  | inr material ↦ (
      let typed = types plane square kind is material in
      ap (λ (p : ℕ). joined raw p (parts_of raw kind)) (sym typed.1)
      ∙ joined-type raw kind rules.own_sets typed.0 (set_not_empty raw kind formed typed.0))
]

no_kinds : Kinds
no_kinds = λ plane square. None

module _ (raw : RawTech) (plane : ℕ) (area : Rect) (parts : List Kinds) (tiles : List SetTile) (are : ArePartTiles raw plane area parts tiles) where
  -- A type stands at the square, and the part that the tiles make has its set.
  record HasSetOf (part : ℕ) (kinds : Kinds) (square : Square) : Type 0 where
    kind : ℕ
    is : kinds plane square ≡ Some kind
    set : tile_part tiles plane part (on_plane plane square) ≡ parts_of raw kind

  -- No tile of the part covers the square.
  record HasNoTile (part : ℕ) (square : Square) : Type 0 where
    set : tile_part tiles plane part (on_plane plane square) ≡ 0
    none : (tile : SetTile) → In tile tiles → tile.part ≡ part → Covers tile.area square → ⊥

  same_kinds : (part : ℕ) (kinds : Kinds) → slice_get parts part ≡ Some kinds → (tile : SetTile) → (h : In tile tiles) → tile.part ≡ part
      → (are.each tile h).kinds ≡ kinds
  same_kinds part kinds there tile h of_part = some_kinds (are.each tile h).kinds kinds
      (sym (are.each tile h).there ∙ ap (slice_get parts) of_part ∙ there)
    where
      some_kinds : (a b : Kinds) → Some a ≡ Some b → a ≡ b
      some_kinds a b e = cc

  -- each tile of the part that covers the square has the set of the type there
  tile_set : (part : ℕ) (kinds : Kinds) → slice_get parts part ≡ Some kinds → (square : Square) (kind : ℕ) → kinds plane square ≡ Some kind
      → (tile : SetTile) → In tile tiles → tile.part ≡ part → Covers tile.area square → tile.set.0 ≡ parts_of raw kind
  tile_set part kinds there square kind is tile h of_part covers =
      let of = are.each tile h in
      of.set ∙ ap (parts_of raw) (some_same of.kind kind
      (sym (of.squares square covers) ∙ ap (λ (k : Kinds). k plane square) (same_kinds part kinds there tile h of_part) ∙ is))

  set_cases : (part : ℕ) (kinds : Kinds) → slice_get parts part ≡ Some kinds → (square : Square) → HasSetOf part kinds square ⊎ HasNoTile part square
  set_cases part kinds there square =
      let test : SetTile → Bool = λ tile. tile.part == part && is_covered tile.area square in
      let place = on_plane plane square in
      elim (cases_Bool (list_any test tiles)) [
        | inl some ↦ (
            let found = list_any-source test tiles some in
            let tile = found.0 in
            let both = and_parts (tile.part == part) (is_covered tile.area square) found.1.1 in
            let of_part = eqb-true tile.part part both.0 in
            let covers = Covers-is_covered tile.area square both.1 in
            let of = are.each tile found.1.0 in
            let is : kinds plane square ≡ Some of.kind =
            sym (ap (λ (k : Kinds). k plane square) (same_kinds part kinds there tile found.1.0 of_part)) ∙ of.squares square covers in
            inl (record {
              kind = of.kind;
              is = is;
              set = same_sets (tile_part tiles plane part place) (parts_of raw of.kind)
                  (λ i bit.
                  let has = part_bit tiles plane part place i bit in
                  subst (λ (s : ℕ). bit_at s i ≡ 1) (tile_set part kinds there square of.kind is has.tile has.listed has.of_part has.covers) has.bit)
                  (λ i bit. part_kept tiles plane part place i (record {
                    tile = tile;
                    listed = found.1.0;
                    of_part = of_part;
                    same_plane = refl;
                    covers = covers;
                    bit = subst (λ (s : ℕ). bit_at s i ≡ 1) (sym of.set) bit;
                  }));
            }))
        | inr none ↦ (
            let nothing : (tile : SetTile) → In tile tiles → tile.part ≡ part → Covers tile.area square → ⊥ =
            λ tile h of_part covers. both_ways (test tile) (list_any-In test tiles tile none h)
            (and_from (tile.part == part) (is_covered tile.area square) (eq-eqb tile.part part of_part)
            (is_covered-Covers tile.area square covers)) in
            inr (record {
              set = same_sets (tile_part tiles plane part place) 0
                  (λ i bit.
                  let has = part_bit tiles plane part place i bit in
                  absurd (nothing has.tile has.listed has.of_part has.covers))
                  (λ i bit. absurd (no_part i bit));
              none = nothing;
            }))
      ]

  -- inside the area the tiles make what the layers have
  set_inside : (part : ℕ) (kinds : Kinds) → slice_get parts part ≡ Some kinds → (square : Square) → Covers area square → kinds plane square ≢ None
      → tile_part tiles plane part (on_plane plane square) ≡ set_layout raw kinds (on_plane plane square)
  set_inside part kinds there square inside defined = elim (set_cases part kinds there square) [
    | inl has ↦ has.set ∙ ap (λ (o : Option ℕ). parts_of raw (or_space o)) (sym has.is)
    | inr empty ↦ empty.set ∙ go empty (kinds plane square) refl
  ]
    where
      go : HasNoTile part square → (found : Option ℕ) → kinds plane square ≡ found → 0 ≡ parts_of raw (or_space (kinds plane square))
      go empty None is = absurd (defined is)
      go empty (Some kind) is = elim (cases_eq kind 0) [
        | inl space ↦ sym (ap (λ (o : Option ℕ). parts_of raw (or_space o)) is ∙ ap (parts_of raw) space)
        | inr material ↦ (
            let tile = are.every part kinds there square kind inside is material in
            absurd (empty.none tile.0 tile.1.0 tile.1.1 tile.1.2))
      ]

  kinds_there : (part : ℕ) → part < length parts → slice_get parts part ≡ Some (get_or parts part no_kinds)
  kinds_there part below = slice_get-get_or parts part no_kinds below

  -- the parts that the tiles make have types
  pub tiles_have_types : IsWellFormed raw → KeepsRules raw → All (AreTypesOf raw) parts → HaveTypes raw (tile_parts tiles plane (length parts))
  tiles_have_types formed rules types position part there place none =
      let at = part_at tiles plane (length parts) position part there in
      let kinds = get_or parts position no_kinds in
      let known = kinds_there position at.0 in
      let typed = types position no_kinds at.0 in
      let set : joined raw place.plane (tile_part tiles plane position place)
      ≡ None = sym (ap (λ (l : SetLayout). joined raw place.plane (l place)) at.1) ∙ none in
      elim (cases_eq place.plane plane) [
        | inr differ ↦ undefined_not 0 (joined raw place.plane (tile_part tiles plane position place))
            (ap (joined raw place.plane) (same_sets (tile_part tiles plane position place) 0
            (λ i bit. absurd (differ (part_bit tiles plane position place i bit).same_plane))
            (λ i bit. absurd (no_part i bit)))) set
        | inl same ↦ (
            let here : place ≡ on_plane plane place.square = ap (λ (p : ℕ). on_plane p place.square) same in
            let set' : joined raw plane (tile_part tiles plane position (on_plane plane place.square)) ≡ None =
            subst (λ (q : Place). joined raw q.plane (tile_part tiles plane position q) ≡ None) here set in
            elim (set_cases position kinds known place.square) [
              | inl has ↦ undefined_not has.kind (joined raw plane (tile_part tiles plane position (on_plane plane place.square)))
                  (ap (joined raw plane) has.set ∙ set_is_type raw formed rules kinds typed plane place.square has.kind has.is) set'
              | inr empty ↦ undefined_not 0 (joined raw plane (tile_part tiles plane position (on_plane plane place.square)))
                  (ap (joined raw plane) empty.set) set'
            ])
      ]
    where
      undefined_not : (kind : ℕ) (found : Option ℕ) → found ≡ Some kind → found ≡ None → ⊥
      undefined_not kind found some none = absurd (cc)

  -- the tiles are of so many parts, and near
  pub tiles_of_parts : IsNear area → AreTilesOfParts (length parts) tiles
  tiles_of_parts near = All-from_In (λ (tile : SetTile). (tile.part < length parts) × IsNear tile.area) tiles (λ tile h.
      let of = are.each tile h in
      (slice_get_within parts tile.part of.kinds of.there, near_within tile.area of.proper of.inside))
    where
      near_within : (core : Rect) → IsProper core → LiesWithin core area → IsNear core
      near_within core proper inside =
          let wide : core.xlo <ℤ core.xhi = proper.wide in
          let high : core.ylo <ℤ core.yhi = proper.high in
          let a : area.xlo ≤ℤ core.xlo = inside.right_of_xlo in
          let b : area.ylo ≤ℤ core.ylo = inside.above_ylo in
          let c : core.xhi ≤ℤ area.xhi = inside.left_of_xhi in
          let d : core.yhi ≤ℤ area.yhi = inside.below_yhi in
          let p = near.xlo.0 in
          let q = near.xhi.1 in
          let r = near.ylo.0 in
          let s = near.yhi.1 in
          record {
            xlo = (omega (arith, ints, a, p), omega (arith, ints, wide, c, q));
            ylo = (omega (arith, ints, b, r), omega (arith, ints, high, d, s));
            xhi = (omega (arith, ints, wide, a, p), omega (arith, ints, c, q));
            yhi = (omega (arith, ints, high, b, r), omega (arith, ints, d, s));
          }

  -- inside the area both have the same
  pub agree_inside : All (λ kinds. (p : ℕ) (square : Square) → kinds p square ≢ None) parts → (square : Square) → Covers area square
      → AgreeAt (tile_parts tiles plane (length parts)) (map (set_layout raw) parts) (on_plane plane square)
  agree_inside defined square inside =
      let place = on_plane plane square in
      let value : SetLayout → ℕ = λ l. l place in
      let none : SetLayout = λ q. 0 in
      let ps = tile_parts tiles plane (length parts) in
      let qs = map (set_layout raw) parts in
      let first = length-parts tiles plane (length parts) in
      let second = length-map parts (set_layout raw) in
      let one = length-map ps value in
      let two = length-map qs value in
      same_lists (map value ps) (map value qs) (omega (arith, first, second, one, two)) (λ k d h.
      let below : k < length parts = omega (arith, first, one, h) in
      get_or-map value ps k none d (omega (arith, first, below))
      ∙ ap value (get_or-map-range_with_len (tile_part tiles plane) 0 (length parts) k k none below (omega arith))
      ∙ set_inside k (get_or parts k no_kinds) (kinds_there k below) square inside (defined k no_kinds below plane square)
      ∙ sym (get_or-map value qs k none d (omega (arith, second, below)) ∙ ap value (get_or-map (set_layout raw) parts k no_kinds none below)))

one_apart : (m n : ℤ) → AreOneApart m n → (m ≤ℤ (n +ℤ pos 1)) × (n ≤ℤ (m +ℤ pos 1))
one_apart m n (inl e) = (omega (arith, ints), omega (arith, ints))
one_apart m n (inr e) = (omega (arith, ints), omega (arith, ints))

none_apart : (m n : ℤ) → m ≡ n → (m ≤ℤ (n +ℤ pos 1)) × (n ≤ℤ (m +ℤ pos 1))
none_apart m n e = (omega (arith, ints), omega (arith, ints))

near_grown : (area : Rect) (square beside : Square) → Covers area square → (square.x ≤ℤ (beside.x +ℤ pos 1)) × (beside.x ≤ℤ (square.x +ℤ pos 1))
    → (square.y ≤ℤ (beside.y +ℤ pos 1)) × (beside.y ≤ℤ (square.y +ℤ pos 1)) → Covers (widened area) beside
near_grown area square beside covers columns rows =
    let left : area.xlo ≤ℤ square.x = covers.right_of_xlo in
    let right : square.x <ℤ area.xhi = covers.left_of_xhi in
    let low : area.ylo ≤ℤ square.y = covers.above_ylo in
    let high : square.y <ℤ area.yhi = covers.below_yhi in
    let a = columns.0 in
    let b = columns.1 in
    let c = rows.0 in
    let d = rows.1 in
    record {
      right_of_xlo = omega (arith, ints);
      left_of_xhi = omega (arith, ints);
      above_ylo = omega (arith, ints);
      below_yhi = omega (arith, ints);
    }

-- neighbours of squares in an area lie in the grown one
pub beside_grown : (area : Rect) (square beside : Square) → Covers area square → AreEdgeNeighbours square beside → Covers (widened area) beside
beside_grown area square beside covers (inl (across, row)) =
    near_grown area square beside covers (one_apart square.x beside.x across) (none_apart square.y beside.y row)
beside_grown area square beside covers (inr (column, up)) =
    near_grown area square beside covers (none_apart square.x beside.x column) (one_apart square.y beside.y up)

-- the grown area of one with a square has one
pub grown_proper : (area : Rect) → IsProper area → IsProper (widened area)
grown_proper area proper =
    let wide : area.xlo <ℤ area.xhi = proper.wide in
    let high : area.ylo <ℤ area.yhi = proper.high in
    record { wide = omega (arith, ints); high = omega (arith, ints) }

-- a rectangle with a square is near where it is near when grown by one
pub near_before : (area : Rect) → IsProper area → IsNear (widened area) → IsNear area
near_before area proper near =
    let wide : area.xlo <ℤ area.xhi = proper.wide in
    let high : area.ylo <ℤ area.yhi = proper.high in
    let left = near.xlo in
    let low = near.ylo in
    let right = near.xhi in
    let top = near.yhi in
    record {
      xlo = (omega (arith, ints, left.0), omega (arith, ints, wide, right.1));
      ylo = (omega (arith, ints, low.0), omega (arith, ints, high, top.1));
      xhi = (omega (arith, ints, wide, left.0), omega (arith, ints, right.1));
      yhi = (omega (arith, ints, high, low.0), omega (arith, ints, top.1));
    }

-- what covers a set, cut to an area
pub cut_covers : (S T : Square → Type 0) (area : Rect) (pieces : List Rect) → CoverExactly S pieces
    → ((square : Square) → Covers area square → S square → T square)
    → ((square : Square) → Covers area square → T square → S square)
    → CoverExactly (λ square. Covers area square × T square) (map (λ piece. common_rect piece area) pieces)
cut_covers S T area pieces cover there back = record {
  sound = λ square inside.
      let source = In-map_source (λ (piece : Rect). common_rect piece area) inside.0 pieces inside.1.0 in
      let both = subst (λ (r : Rect). Covers r square) (sym source.1.1) inside.1.1 in
      let first = covers_first source.0 area square both in
      let second = covers_second source.0 area square both in
      (second, there square second (cover.sound square (source.0, (source.1.0, first))));
  whole = λ square h.
      let found = cover.whole square (back square h.0 h.1) in (
        common_rect found.0 area,
        (
          In-map (λ (piece : Rect). common_rect piece area) found.0 pieces found.1.0,
          covers_both found.0 area square found.1.1 h.0,
        ),
      );
}

-- the pieces of the tiles, cut to an area, cover what offends there
pub layers_covered : (raw : RawTech) (plane : ℕ) (area : Rect) (parts : List Kinds) (tiles : List SetTile)
    → ArePartTiles raw plane (widened area) parts tiles
    → All (λ kinds. (p : ℕ) (square : Square) → kinds p square ≢ None) parts → (pieces : List Rect)
    → CoverExactly (OffendsOn raw (tile_parts tiles plane (length parts)) plane) pieces
    → CoverExactly (λ square. Covers area square × OffendsOn raw (map (set_layout raw) parts) plane square)
    (map (λ piece. common_rect piece area) pieces)
layers_covered raw plane area parts tiles are defined pieces cover =
    let made = tile_parts tiles plane (length parts) in
    let layouts = map (set_layout raw) parts in
    let agree = agree_inside raw plane (widened area) parts tiles are defined in
    let beside : (square : Square) → Covers area square → (other : Place) → AreNeighbours (on_plane plane square) other → AgreeAt made layouts other =
    λ square inside other near.
    subst (AgreeAt made layouts) (ap (λ (p : ℕ). on_plane p other.square) near.0)
    (agree other.square (beside_grown area square other.square inside near.1)) in
    cut_covers (OffendsOn raw made plane) (OffendsOn raw layouts plane) area pieces cover
    (λ square inside offends. offends_same made layouts raw (on_plane plane square) (agree square (covers_widened area square inside))
    (beside square inside) offends)
    (λ square inside offends. offends_same layouts made raw (on_plane plane square) (sym (agree square (covers_widened area square inside)))
    (λ other near. sym (beside square inside other near)) offends)
