-- What is found at the lowest tiles are the transistors.
use Rattle.fet_regions.proofs.Common.{◌≡◌, ℕ, ◌+◌, ◌<◌, ℤ, pos, Bool, true, eqb, List, [], ◌∷◌, ◌++◌, map, take, length, get_or, IsTrue, inl, inr}
use Rattle.fet_regions.proofs.Common.{refl, sym, ◌∙◌, ap, subst, arith, slice_get, slice_index, Option, All, AllPairs, ints, cases_lt, get_or-map}
use Rattle.fet_regions.proofs.Common.{length-map, slice_get_within, get_or_from_slice_get, corner_of, square_is, In, Lists, sum_on, Total, In-index}
use Rattle.fet_regions.proofs.Common.{In-get_or, In-map, In-map_source, Divides, IsPair, Contact, RawTech, TypeId, KeepsRules, plane_of, Place}
use Rattle.fet_regions.proofs.Common.{Layout, IsMaterial, HasTypesOf, is_channel, is_terminal, LeadsAcross, IsEdgeCount, LiesIn, AreLayoutTiles}
use Rattle.fet_regions.proofs.Common.{IsInRegion, AreOneChannel, IsTerminalOf, AreTransistors, RegionTile, no_tile, tile_at, IsTileContact}
use Rattle.fet_regions.proofs.Common.{edges_by_contacts, part_in, parts_of, summed, IsChannelTile, IsNoHigher, AreLowest, place_of, alike_pairs}
use Rattle.fet_regions.proofs.Common.{channel_in, terminal_in, transistor_of, AreFoundAt, AreFets, Fet, Part}
use Rattle.std.proofs.Common.{suc, ◌<ℤ◌, Some}
use Rattle.std.proofs.lemmas.List.{get_or-take, get_or_append_left, get_or_push, length-take-le, length_push}
use Rattle.std.proofs.lemmas.Option.{slice_get-get_or}
use Rattle.geo_core.specs.Covering.{Covers}
use Rattle.finite_sets.specs.Chain.Chain.{stay}
use Rattle.finite_sets.specs.Lists.{Distinct}
use Rattle.finite_sets.proofs.Chains.{Chain-keeps}
use Rattle.finite_sets.proofs.Distincts.{Distinct-from_places}
use Rattle.finite_sets.proofs.Orders.{less_equal_or_greater}
use Rattle.finite_sets.proofs.Sums.{sum_on-count}
use Rattle.finite_sets.proofs.Totals.{Total-at}
use Rattle.tech_model.specs.WellFormed.{IsWellFormed}
use Rattle.layout_model.specs.Places.{AreNeighbours, IsBefore, IsNoLater}
use Rattle.layout_model.specs.Transistors.{Transistor, IsTransistor, AreFetsInOrder}
use Rattle.layout_model.proofs.PlaceLaws.{IsBefore-trans}
use Rattle.flood_nodes.proofs.TileEdges.{lies_in_one}
use Rattle.fet_regions.specs.Lengths.{AreByRegion}
use Rattle.fet_regions.specs.steps.Sizes.{AreSizes}
use Rattle.fet_regions.specs.steps.Roles.{AreRoles}
use Rattle.fet_regions.specs.declared.roles.Roles.{Roles}
use Rattle.fet_regions.specs.Transistors.{IsFoundAt}
use Rattle.fet_regions.specs.declared.sizes.Sizes.{Sizes}
use Rattle.fet_regions.proofs.AlikeTiles.{AreLabelled, labelled, corner_lies, lies_material, tile_plane}
use Rattle.fet_regions.proofs.ChannelLaws.{IsMeasuredChannel, is_of_channel, is_terminal_of, measured, of_label}
use Rattle.fet_regions.proofs.LowestLaws.{place_same}
use Rattle.fet_regions.proofs.LengthLaws.{length_sum, have_length, sum_some, summed_some, summed_cases}
use Rattle.fet_regions.proofs.RoleLaws.{channel_type, channel_apart, terminal_type, type_not_space}
use Rattle.fet_regions.proofs.SizeLaws.{area_sum, open_sum}

IsNoLater-trans : (a b c : Place) → IsNoLater a b → IsNoLater b c → IsNoLater a c
IsNoLater-trans a b c (inl same) q = subst (λ (p : Place). IsNoLater p c) (sym same) q
IsNoLater-trans a b c (inr p) (inl same) = subst (λ (q : Place). IsNoLater a q) same (inr p)
IsNoLater-trans a b c (inr p) (inr q) = inr (IsBefore-trans a b c p q)

-- the corner of a tile is its first place
corner_first : (tile : RegionTile) (a : Place) → a.plane ≡ tile.plane → Covers tile.area a.square → IsNoLater (place_of tile) a
corner_first tile a plane covers =
    elim (less_equal_or_greater tile.area.ylo a.square.y) [
      | inl below ↦ inr (inr (sym plane, inl below))
      | inr (inr above) ↦ absurd (let low = covers.above_ylo in omega (arith, ints, low, above))
      | inr (inl row) ↦ (elim (less_equal_or_greater tile.area.xlo a.square.x) [
        | inl left ↦ inr (inr (sym plane, inr (row, left)))
        | inr (inr right) ↦ absurd (let low = covers.right_of_xlo in omega (arith, ints, low, right))
        | inr (inl column) ↦ inl (place_same (place_of tile) a (sym plane) (square_is (corner_of tile.area) a.square column row))
      ])
    ]

-- a set of which there is one is not counted 0
some_counted : {X : Type 0} (P : X → Type 0) (x : X) → P x → Total P (λ y. pos 1) (pos 0) → ⊥
some_counted P x p total =
    let at = In-index x total.0 (total.1.0.1 x p) in
    let many = sum_on-count total.0 in
    let none = total.1.1 in
    let inside = at.1.0 in
    omega (arith, ints, many, none, inside)

-- terminals in order are distinct
terminals_once : (terminals : List (ℕ × ℤ)) → AreByRegion terminals → Distinct (map (λ (t : ℕ × ℤ). t.0) terminals)
terminals_once terminals sorted =
    Distinct-from_places (map (λ (t : ℕ × ℤ). t.0) terminals) (λ i j d less below e.
    let long = length-map terminals (λ (t : ℕ × ℤ). t.0) in
    let last : j < length terminals = omega (arith, below, long) in
    let first : i < length terminals = omega (arith, less, last) in
    let a = get_or-map (λ (t : ℕ × ℤ). t.0) terminals i (d, pos 0) d first in
    let b = get_or-map (λ (t : ℕ × ℤ). t.0) terminals j (d, pos 0) d last in
    let order = sorted i j (d, pos 0) less last in
    let same = sym a ∙ e ∙ b in
    omega (arith, order, same))

-- a list that has a place has a thing
some_fet : (xs : List Fet) (k : ℕ) → k < length xs → Fet
some_fet [] k inside = absurd (omega (arith, inside))
some_fet (x ∷ xs) k inside = x

in_order_from_pairs : {N : Type 0} (fets : List (Transistor N)) → AllPairs (λ a b. IsBefore a.least b.least) fets → AreFetsInOrder fets
in_order_from_pairs [] pairs = tt
in_order_from_pairs (a ∷ []) pairs = tt
in_order_from_pairs (a ∷ b ∷ fets) pairs = (
  pairs 0 1 a (omega arith) (omega arith),
  in_order_from_pairs (b ∷ fets) (λ i j d less below. pairs (suc i) (suc j) d (omega (arith, less)) (omega (arith, below))),
)

-- from the same place
from_same : (layout : Layout) (p q a : Place) → q ≡ p → AreOneChannel layout p a → AreOneChannel layout q a
from_same layout p q a same chain = subst (λ (v : Place). AreOneChannel layout v a) (sym same) chain

-- between the same places
before_same : (p q a b : Place) → p ≡ a → q ≡ b → IsBefore a b → IsBefore p q
before_same p q a b e f order = subst (λ (v : Place). IsBefore v q) (sym e) (subst (λ (v : Place). IsBefore a v) (sym f) order)

module _ (raw : RawTech) (layout : Layout) (tiles : List RegionTile) (contacts : List Contact) (labels : List ℕ) (count : ℕ) (sizes : Sizes)
    (lengths : ℕ × ℕ → Option ℤ) (well : IsWellFormed raw) (rules : KeepsRules raw) (typed : HasTypesOf raw layout) (are : AreLayoutTiles layout tiles)
    (listed : Lists (IsTileContact tiles) contacts) (labelled : AreLabelled layout tiles labels) (long : length labels ≡ length tiles)
    (below : All (λ label. label < count) labels) (have : AreSizes tiles contacts labels count sizes)
    (told : (key : ℕ × ℕ) → lengths key ≡ summed (parts_of (is_terminal raw) tiles labels contacts) key) where
  contact_within : (c : Contact) → In c contacts → (c.first < length tiles) × (c.second < length tiles)
  contact_within c i = let is = listed.2 c i in let order = is.in_order in let last = is.in_list in (omega (arith, order, last), last)

  abbrev parts : List Part
  parts = parts_of (is_terminal raw) tiles labels contacts

  abbrev Owns : ℕ → Place → Type 0
  Owns = IsInRegion tiles

  there : (i : ℕ) → i < length tiles → slice_get tiles i ≡ Some (tile_at tiles i)
  there i inside = slice_get-get_or tiles i no_tile inside

  abbrev lies_at : (i : ℕ) → (inside : i < length tiles) → LiesIn tiles i (place_of (tile_at tiles i))
  lies_at i inside = corner_lies raw layout tiles are typed i (tile_at tiles i) (there i inside)

  -- where a channel's type stands, a tile of a channel lies
  channel_tile : (i : ℕ) (a : Place) → LiesIn tiles i a → is_channel raw (layout a) ≡ true → IsChannelTile (is_channel raw) tiles i
  channel_tile i a lies channel = record {
    within = slice_get_within tiles i lies.tile lies.there;
    channel = ap (λ (t : RegionTile). is_channel raw t.kind.0) (get_or_from_slice_get tiles i lies.tile no_tile lies.there)
        ∙ ap (is_channel raw) (sym (are.kinds i a lies)) ∙ channel;
  }

  module _ (i : ℕ) (fet : Fet) (is : IsChannelTile (is_channel raw) tiles i)
      (least : (j : ℕ) → IsChannelTile (is_channel raw) tiles j → slice_index labels j ≡ slice_index labels i → IsNoHigher tiles i j)
      (found : IsFoundAt tiles labels sizes lengths i fet) where
    abbrev tile : RegionTile
    tile = tile_at tiles i

    abbrev place : Place
    place = place_of tile

    abbrev label : ℕ
    label = slice_index labels i

    abbrev lies : LiesIn tiles i place
    lies = lies_at i is.within

    kind_here : layout place ≡ tile.kind.0
    kind_here = are.kinds i place lies

    material : IsMaterial layout place
    material = lies_material raw layout tiles are typed i place lies

    label_below : label < count
    label_below = let inside = is.within in below i 0 (omega (arith, inside, long))

    measures : IsMeasuredChannel raw layout tiles contacts labels tile.kind.0 label place
    measures = subst (λ (k : ℕ). IsMeasuredChannel raw layout tiles contacts labels k label place) kind_here
        (measured raw layout tiles contacts labels i place are listed labelled lies material)

    labelled_here : (j : ℕ) → j < length tiles → eqb (slice_index labels j) label ≡ is_of_channel tiles labels tile.kind.0 label j
    labelled_here j inside =
        subst (λ (k : ℕ). eqb (slice_index labels j) label ≡ is_of_channel tiles labels k label j) kind_here
        (of_label raw layout tiles contacts labels i place are listed labelled lies material j inside
        (λ m within. (place_of (tile_at tiles m), lies_at m within)))

    -- the first place
    no_later : (b : Place) → AreOneChannel layout place b → IsNoLater place b
    no_later b chain =
        let kinds = Chain-keeps layout (λ c d alike. alike.same) chain in
        let at = are.every b (λ none. material (kinds ∙ none)) in
        let j = at.0 in
        let other = channel_tile j b at.1 (ap (is_channel raw) (sym kinds ∙ kind_here) ∙ is.channel) in
        let stands = get_or_from_slice_get tiles j at.1.tile no_tile at.1.there in
        IsNoLater-trans place (place_of (tile_at tiles j)) b (least j other (sym ((labelled i j place b lies at.1).1 chain)))
        (subst (λ (t : RegionTile). IsNoLater (place_of t) b) (sym stands) (corner_first at.1.tile b at.1.plane at.1.covers))

    length_told : (region : ℕ) → sum_on (part_in (label, region)) parts
        ≡ edges_by_contacts tiles contacts (is_of_channel tiles labels tile.kind.0 label) (is_terminal_of raw tiles tile.kind.0 region)
    length_told region =
        length_sum raw tiles labels tile.kind.0 label region (channel_apart raw well rules tile.kind.0) labelled_here contacts contact_within

    abbrev To : ℕ → Place → Type 0
    To = IsTerminalOf raw layout Owns tile.kind.0

    edges_told : (region : ℕ) → IsEdgeCount (AreOneChannel layout place) (To region) (sum_on (part_in (label, region)) parts)
    edges_told region = Total-at (LeadsAcross (AreOneChannel layout place) (To region)) (λ e. pos 1)
        (edges_by_contacts tiles contacts (is_of_channel tiles labels tile.kind.0 label) (is_terminal_of raw tiles tile.kind.0 region))
        (sum_on (part_in (label, region)) parts) (sym (length_told region)) (measures.terminals region)

    terminal_is : (region : ℕ) (length : ℤ) → In {X = ℕ × ℤ} (region, length) fet.terminals
        → (pos 0 <ℤ length) × IsEdgeCount (AreOneChannel layout place) (To region) length
    terminal_is region length inside =
        let says = summed_some parts (label, region) length (sym (told (label, region)) ∙ found.terminals.sound region length inside) in
        let some = sum_some (label, region) parts
        (have_length (is_terminal raw) tiles labels contacts (λ c among. (listed.2 c among).not_none)) says.0 in (
          subst (λ (z : ℤ). pos 0 <ℤ z) says.1 some,
          Total-at (LeadsAcross (AreOneChannel layout place) (To region)) (λ e. pos 1) (sum_on (part_in (label, region)) parts) length says.1
              (edges_told region),
        )

    terminal_there : (a b : Place) → AreOneChannel layout place a → AreNeighbours a b → IsTrue (is_terminal raw tile.kind.0 (layout b))
        → (region : ℕ) × In region (map (λ terminal. terminal.0) fet.terminals) × Owns region b
    terminal_there a b chain near test =
        let stands = are.every b (type_not_space raw well (layout b) (terminal_type raw well tile.kind.0 (layout b) test)) in
        let region = stands.1.tile.region in
        let owned : Owns region b = record { index = stands.0; lies = stands.1; numbered = refl } in (
          region,
          (elim (summed_cases parts (label, region)) [
            | inl e ↦ In-map (λ (terminal : ℕ × ℤ). terminal.0) (region, sum_on (part_in (label, region)) parts) fet.terminals
                (found.terminals.whole region (sum_on (part_in (label, region)) parts) (told (label, region) ∙ e))
            | inr none ↦ absurd (some_counted (LeadsAcross (AreOneChannel layout place) (To region)) (a, b)
                (record { from = chain; to = record { listed = test; owned = owned }; near = near })
                (Total-at (LeadsAcross (AreOneChannel layout place) (To region)) (λ e. pos 1) (sum_on (part_in (label, region)) parts) (pos 0) none
                (edges_told region)))
          ]),
          owned,
        )

    abbrev at_tile : Transistor ℕ
    at_tile = record {
      kind = tile.kind.0;
      least = place;
      area = fet.area;
      perimeter = fet.perimeter;
      gate = tile.region;
      terminals = fet.terminals;
    }

    at_tile_is : IsTransistor raw layout Owns at_tile
    at_tile_is = record {
      listed = is.channel;
      kind = kind_here;
      least = (stay, no_later);
      area = Total-at (AreOneChannel layout place) (λ p. pos 1) _ fet.area
          (sym (found.area ∙ have.area label label_below ∙ area_sum tiles labels tile.kind.0 label labelled_here)) measures.area;
      perimeter = Total-at (LeadsAcross (AreOneChannel layout place) (λ p. AreOneChannel layout place p → ⊥)) (λ e. pos 1) _ fet.perimeter
          (sym (found.perimeter ∙ have.perimeter label label_below ∙ open_sum tiles labels tile.kind.0 label labelled_here contacts contact_within))
          measures.perimeter;
      gate = record { index = i; lies = lies; numbered = refl };
      terminals = terminal_is;
      whole = terminal_there;
      once = terminals_once fet.terminals found.terminals.by_region;
    }

    -- what is found begins at the tile's corner
    pub found_least : (transistor_of raw fet).least ≡ place
    found_least = place_same (transistor_of raw fet).least place
        (ap (λ (k : TypeId). plane_of raw k.0) found.kind ∙ sym (tile_plane raw layout tiles are typed i tile (there i is.within))) found.point

    -- what is found at a lowest tile of a channel is its transistor
    pub found_is : IsTransistor raw layout Owns (transistor_of raw fet)
    found_is = subst (IsTransistor raw layout Owns) (λ k. record {
      kind = (sym found.kind k).0;
      least = sym found_least k;
      area = fet.area;
      perimeter = fet.perimeter;
      gate = sym found.gate k;
      terminals = fet.terminals;
    }) at_tile_is

  module _ (lowest : List ℕ) (found : List Fet) (low : AreLowest (is_channel raw) tiles labels lowest)
      (at : AreFoundAt tiles labels sizes lengths lowest found) where
    -- the tile of what is found
    found_at : (k : ℕ) (fet : Fet) → k < length found → IsFoundAt tiles labels sizes lengths (slice_index lowest k) (get_or found k fet)
    found_at k fet inside = let many = at.so_many in at.each k fet (omega (arith, inside, many))

    in_lowest : (k : ℕ) → k < length found → In (slice_index lowest k) lowest
    in_lowest k inside = let many = at.so_many in In-get_or lowest k 0 (omega (arith, inside, many))

    least_at : (k : ℕ) (fet : Fet) → k < length found → (transistor_of raw (get_or found k fet)).least ≡ place_of (tile_at tiles (slice_index lowest k))
    least_at k fet inside =
        let i = slice_index lowest k in
        let low_in = in_lowest k inside in
        found_least i (get_or found k fet) (low.channels i low_in) (λ j is same. low.least i j low_in is same) (found_at k fet inside)

    sound : (fet : Transistor ℕ) → In fet (map (transistor_of raw) found) → IsTransistor raw layout Owns fet
    sound fet inside =
        let source = In-map_source (transistor_of raw) fet found inside in
        let x = In-index source.0 found source.1.0 in
        let k = x.0 in
        let i = slice_index lowest k in
        let low_in = in_lowest k x.1.0 in
        subst (IsTransistor raw layout Owns) source.1.1
        (found_is i source.0 (low.channels i low_in) (λ j is same. low.least i j low_in is same)
        (subst (IsFoundAt tiles labels sizes lengths i) (x.1.1 source.0) (found_at k source.0 x.1.0)))

    whole : (a : Place) → IsTrue (is_channel raw (layout a))
        → (fet : Transistor ℕ) × In fet (map (transistor_of raw) found) × AreOneChannel layout fet.least a
    whole a channel =
        let stands = are.every a (type_not_space raw well (layout a) (channel_type raw well (layout a) channel)) in
        let j = stands.0 in
        let every = low.every j (channel_tile j a stands.1 channel) in
        let x = In-index every.0 lowest every.1.0 in
        let k = x.0 in
        let many = at.so_many in
        let within = x.1.0 in
        let inside : k < length found = omega (arith, within, many) in
        let i = slice_index lowest k in
        let fet : Fet = get_or found k (some_fet found k inside) in
        let is = low.channels i (in_lowest k inside) in
        let same : slice_index labels i ≡ slice_index labels j = ap (slice_index labels) (x.1.1 0) ∙ every.1.1 in (
          transistor_of raw fet,
          In-map (transistor_of raw) fet found (In-get_or found k (some_fet found k inside) inside),
          from_same layout (place_of (tile_at tiles i)) (transistor_of raw fet).least a (least_at k (some_fet found k inside) inside)
              ((labelled i j (place_of (tile_at tiles i)) a (lies_at i is.within) stands.1).0 same),
        )

    before : (k m : ℕ) (fet : Fet) → k < m → m < length found
        → IsBefore (transistor_of raw (get_or found k fet)).least (transistor_of raw (get_or found m fet)).least
    before k m fet less inside =
        let first : k < length found = omega (arith, less, inside) in
        let many = at.so_many in
        let last : m < length lowest = omega (arith, inside, many) in
        let i = slice_index lowest k in
        let j = slice_index lowest m in
        let p = lies_at i (low.channels i (in_lowest k first)).within in
        let q = lies_at j (low.channels j (in_lowest m inside)).within in
        let here = place_of (tile_at tiles i) in
        let next = place_of (tile_at tiles j) in
        let order : IsBefore here next = elim (low.in_order k m 0 less last) [
          | inr earlier ↦ earlier
          | inl same ↦ absurd (low.labels_differ k m 0 less last
              (ap (slice_index labels) (lies_in_one tiles i j here are.apart p (subst (LiesIn tiles j) (sym same) q))))
        ] in
        before_same (transistor_of raw (get_or found k fet)).least (transistor_of raw (get_or found m fet)).least here next (least_at k fet first)
        (least_at m fet inside) order

    -- a transistor for each channel, in order
    pub are_transistors : AreTransistors raw layout Owns (map (transistor_of raw) found)
    are_transistors = record {
      sound = sound;
      whole = whole;
      in_order = in_order_from_pairs (map (transistor_of raw) found) (λ k m t less inside.
          let long = length-map found (transistor_of raw) in
          let last : m < length found = omega (arith, inside, long) in
          let first : k < length found = omega (arith, less, last) in
          let fet = some_fet found m last in
          before_same (get_or (map (transistor_of raw) found) k t).least (get_or (map (transistor_of raw) found) m t).least
          (transistor_of raw (get_or found k fet)).least (transistor_of raw (get_or found m fet)).least
          (ap (λ (v : Transistor ℕ). v.least) (get_or-map (transistor_of raw) found k fet t first))
          (ap (λ (v : Transistor ℕ). v.least) (get_or-map (transistor_of raw) found m fet t last)) (before k m fet less last));
    }

-- one more that is found
pub found_more : (tiles : List RegionTile) (labels : List ℕ) (sizes : Sizes) (lengths : ℕ × ℕ → Option ℤ) (lowest : List ℕ) (i : ℕ) (found new : List Fet)
    (fet : Fet) → i < length lowest → AreFoundAt tiles labels sizes lengths (take i lowest) found
    → IsFoundAt tiles labels sizes lengths (slice_index lowest i) fet → new ≡ found ++ fet ∷ []
    → AreFoundAt tiles labels sizes lengths (take (i + 1) lowest) new
found_more tiles labels sizes lengths lowest i found new fet inside before is e =
    let many = before.so_many in
    let upto = length-take-le i lowest (omega (arith, inside)) in
    let next = length-take-le (i + 1) lowest (omega (arith, inside)) in
    let grown = ap length e ∙ length_push found fet in
    record {
      so_many = omega (arith, many, upto, next, grown);
      each = λ k other below.
          let early : k < i + 1 = omega (arith, below, next) in
          let at : slice_index (take (i + 1) lowest) k ≡ slice_index lowest k = get_or-take (i + 1) lowest k 0 early in
          subst (λ (t : ℕ). IsFoundAt tiles labels sizes lengths t (get_or new k other)) (sym at)
          (subst (λ (fs : List Fet). IsFoundAt tiles labels sizes lengths (slice_index lowest k) (get_or fs k other)) (sym e)
          (elim (cases_lt k i) [
            | inl less ↦ subst (IsFoundAt tiles labels sizes lengths (slice_index lowest k))
                (sym (get_or_append_left found (fet ∷ []) other k (omega (arith, less, many, upto))))
                (subst (λ (t : ℕ). IsFoundAt tiles labels sizes lengths t (get_or found k other)) (get_or-take i lowest k 0 less)
                (before.each k other (omega (arith, less, upto))))
            | inr ge ↦
                (let same : i ≡ k = omega (arith, ge, early) in
                let last : length found ≡ k = omega (arith, many, upto, same) in
                subst (IsFoundAt tiles labels sizes lengths (slice_index lowest k)) (sym (get_or_push found fet other k last))
                (subst (λ (m : ℕ). IsFoundAt tiles labels sizes lengths (slice_index lowest m) fet) same is))
          ]));
    }

found_by_region : (tiles : List RegionTile) (labels : List ℕ) (sizes : Sizes) (lengths : ℕ × ℕ → Option ℤ) (lowest : List ℕ) (found : List Fet)
    → AreFoundAt tiles labels sizes lengths lowest found → All (λ fet. AreByRegion fet.terminals) found
found_by_region tiles labels sizes lengths lowest found at = λ k d below.
    let many = at.so_many in (at.each k d (omega (arith, many, below))).terminals.by_region

-- what is found by labels of edge-connected sets of one type are the transistors
pub fets_found : (raw : RawTech) (layout : Layout) (tiles : List RegionTile) (contacts : List Contact) (labels : List ℕ) (count : ℕ) (roles : Roles)
    (found : List Fet) → IsWellFormed raw → KeepsRules raw → HasTypesOf raw layout → AreLayoutTiles layout tiles → Lists (IsTileContact tiles) contacts
    → AreRoles raw roles → length labels ≡ length tiles → Divides labels (IsPair (alike_pairs tiles contacts)) → All (λ label. label < count) labels
    → AreFets (channel_in roles) (terminal_in roles) tiles contacts labels count found
    → AreTransistors raw layout (IsInRegion tiles) (map (transistor_of raw) found)
fets_found raw layout tiles contacts labels count roles found well rules typed are listed say long divides below fets =
    are_transistors raw layout tiles contacts labels count fets.sizes fets.lengths well rules typed are listed
    (labelled raw layout tiles are typed contacts listed labels long divides) long below fets.are_sizes
    (λ key. fets.are_lengths key ∙ (λ k. summed (parts_of (λ channel kind. say.terminals channel kind k) tiles labels contacts) key))
    fets.lowest found
    (subst (λ (test : ℕ → Bool). AreLowest test tiles labels fets.lowest) (λ k kind. say.channels kind k) fets.are_lowest) fets.each

-- each has its terminals in order
pub fets_by_region : (is_channel : ℕ → Bool) (is_terminal : ℕ → ℕ → Bool) (tiles : List RegionTile) (contacts : List Contact) (labels : List ℕ) (count : ℕ)
    (found : List Fet) → AreFets is_channel is_terminal tiles contacts labels count found → All (λ fet. AreByRegion fet.terminals) found
fets_by_region is_channel is_terminal tiles contacts labels count found fets =
    found_by_region tiles labels fets.sizes fets.lengths fets.lowest found fets.each
