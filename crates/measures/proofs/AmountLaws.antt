-- The amounts of tiles and contacts, summed by region, are what their regions measure.
use Rattle.measures.proofs.Common.{◌≡◌, ℕ, ◌<◌, ℤ, pos, ◌-ℤ◌, ◌*ℤ◌, List, [], ◌∷◌, ◌++◌, map, length, get_or, refl, sym, ◌∙◌, ap, subst, arith, All}
use Rattle.measures.proofs.Common.{ints, get_or-map, length-map, In, Lists, sum_on, one_if, All-from_In, IsNear, Amount, Contact, RegionTile}
use Rattle.measures.proofs.Common.{area_amounts, perimeter_amounts, shared_amounts}
use Rattle.std.proofs.Common.{◌+◌, ◌+ℤ◌, ◌<ℤ◌, Bool, true, false, cond, eqb, ◌&&◌}
use Rattle.std.proofs.Common.{inl, inr, append_assoc}
use Rattle.std.proofs.lemmas.List.{ext_get_or}
use Rattle.std.proofs.lemmas.List.Elements.{All-map, All-append}
use Rattle.std.proofs.lemmas.List.FromFn.{length-range_with_len, get_or-range_with_len}
use Rattle.geo_core.proofs.FiniteSets.Members.{In-get_or}
use Rattle.geo_core.proofs.FiniteSets.Sums.{sum_on-append, sum_on-map, sum_on-same}
use Rattle.geo_core.specs.Covering.{IsProper}
use Rattle.key_sums.specs.Amounts.{counts_for, sum_of}
use Rattle.flood_nodes.specs.RectContacts.Squares.{area_of, perimeter_of}
use Rattle.flood_nodes.specs.SoundTiles.{IsSoundTile}
use Rattle.flood_nodes.specs.TileShares.{no_tile, tile_at, indices_of, IsTileContact, is_of, open_by_contacts}
use Rattle.measures.specs.steps.Sizes.{area_in, perimeter_in, shared_in}

-- one contact more
pub shared_amounts-append : (contains : ℕ → Bool) (tiles : List RegionTile) (xs ys : List Contact)
    → shared_amounts contains tiles (xs ++ ys) ≡ shared_amounts contains tiles xs ++ shared_amounts contains tiles ys
shared_amounts-append contains tiles [] ys = refl
shared_amounts-append contains tiles (x ∷ xs) ys =
    let value = shared_in contains (tile_at tiles x.first) (tile_at tiles x.second) x.length in
    ap (λ (v : List Amount). record { key = (tile_at tiles x.first).region; value = value } ∷ record { key = (tile_at tiles x.second).region; value = value }
    ∷ v)
    (shared_amounts-append contains tiles xs ys)

-- two amounts more at the end
pub adds_two : (before mid one two xs ys : List Amount) (a b : Amount) → one ≡ mid ++ a ∷ [] → two ≡ one ++ b ∷ [] → mid ≡ before ++ xs → ys ≡ xs ++ a ∷ b ∷ []
    → two ≡ before ++ ys
adds_two before mid one two xs ys a b e f g h =
    f ∙ ap (λ (v : List Amount). v ++ b ∷ []) (e ∙ ap (λ (v : List Amount). v ++ a ∷ []) g)
    ∙ append_assoc (before ++ xs) (a ∷ []) (b ∷ []) ∙ append_assoc before xs (a ∷ b ∷ []) ∙ ap (λ (v : List Amount). before ++ v) (sym h)

module _ (tiles : List RegionTile) (contacts : List Contact) (count : ℕ) (sound : All (IsSoundTile count) tiles) where
  pub tiles_near : All (λ tile. IsProper tile.area × IsNear tile.area) tiles
  tiles_near = λ k d below. let s = sound k d below in (s.proper, s.near)

  pub area_keys : (contains : ℕ → Bool) → All (λ amount. amount.key < count) (area_amounts contains tiles)
  area_keys contains = All-map (λ (a : Amount). a.key < count) (λ (t : RegionTile). record { key = t.region; value = area_in contains t }) tiles
      (λ k d below. (sound k d below).numbered)

  perimeter_keys : (contains : ℕ → Bool) → All (λ amount. amount.key < count) (perimeter_amounts contains tiles)
  perimeter_keys contains = All-map (λ (a : Amount). a.key < count) (λ (t : RegionTile). record { key = t.region; value = perimeter_in contains t }) tiles
      (λ k d below. (sound k d below).numbered)

  shared_keys : (contains : ℕ → Bool) (some : List Contact) → ((c : Contact) → In c some → (c.first < length tiles) × (c.second < length tiles))
      → (amount : Amount) → In amount (shared_amounts contains tiles some) → amount.key < count
  shared_keys contains [] within amount i = absurd i
  shared_keys contains (c ∷ cs) within amount (inl e) =
      subst (λ (a : Amount). a.key < count) e (sound c.first no_tile (within c (inl refl)).0).numbered
  shared_keys contains (c ∷ cs) within amount (inr (inl e)) =
      subst (λ (a : Amount). a.key < count) e (sound c.second no_tile (within c (inl refl)).1).numbered
  shared_keys contains (c ∷ cs) within amount (inr (inr i)) = shared_keys contains cs (λ d j. within d (inr j)) amount i

  module _ (listed : Lists (IsTileContact tiles) contacts) where
    contact_within : (c : Contact) → In c contacts → (c.first < length tiles) × (c.second < length tiles)
    contact_within c i = let is = listed.2 c i in let order = is.in_order in let last = is.in_list in (omega (arith, order, last), last)

    pub contacts_within : All (λ contact. (contact.first < length tiles) × (contact.second < length tiles)) contacts
    contacts_within = λ k d below. contact_within (get_or contacts k d) (In-get_or contacts k d below)

    pub contacts_some : All (λ contact. pos 0 <ℤ contact.length) contacts
    contacts_some = λ k d below. (listed.2 (get_or contacts k d) (In-get_or contacts k d below)).not_none

    pub all_keys : (contains : ℕ → Bool) → All (λ amount. amount.key < count) (perimeter_amounts contains tiles ++ shared_amounts contains tiles contacts)
    all_keys contains = All-append (λ (a : Amount). a.key < count) (perimeter_amounts contains tiles) (shared_amounts contains tiles contacts)
        (perimeter_keys contains)
        (All-from_In (λ (a : Amount). a.key < count) (shared_amounts contains tiles contacts) (shared_keys contains contacts contact_within))

-- a sum over tiles, by their places
sum_by_places : (w : RegionTile → ℤ) (tiles : List RegionTile) → sum_on w tiles ≡ sum_on (λ (i : ℕ). w (tile_at tiles i)) (indices_of tiles)
sum_by_places w tiles =
    ap (sum_on w) (sym listing) ∙ sum_on-map (tile_at tiles) w (indices_of tiles)
  where
    long : length (indices_of tiles) ≡ length tiles
    long = length-range_with_len 0 (length tiles)

    listing : map (tile_at tiles) (indices_of tiles) ≡ tiles
    listing = ext_get_or no_tile (map (tile_at tiles) (indices_of tiles)) tiles (length-map (indices_of tiles) (tile_at tiles) ∙ long)
        (λ i below. let many = length-map (indices_of tiles) (tile_at tiles) in
        let inside : i < length tiles = omega (arith, below, many, long) in
        let at = get_or-range_with_len 0 (length tiles) i 0 inside in
        let same : 0 + i ≡ i = omega arith in
        get_or-map (tile_at tiles) (indices_of tiles) i 0 no_tile (omega (arith, inside, long)) ∙ ap (tile_at tiles) (at ∙ same))

gate_both : (p q : Bool) (v : ℤ) → cond p (cond q v (pos 0)) (pos 0) ≡ cond (p && q) v (pos 0)
gate_both true q v = refl
gate_both false q v = refl

-- what a contact takes off a region
gate_shared : (f s c d : Bool) (v : ℤ)
    → cond f (cond (c && d) (pos 0 -ℤ v) (pos 0)) (pos 0) +ℤ cond s (cond (c && d) (pos 0 -ℤ v) (pos 0)) (pos 0)
    ≡ pos 0 -ℤ ((one_if ((f && c) && d) +ℤ one_if ((s && d) && c)) *ℤ v)
gate_shared true true true true v = omega (arith, ints)
gate_shared true true true false v = omega (arith, ints)
gate_shared true true false true v = omega (arith, ints)
gate_shared true true false false v = omega (arith, ints)
gate_shared true false true true v = omega (arith, ints)
gate_shared true false true false v = omega (arith, ints)
gate_shared true false false true v = omega (arith, ints)
gate_shared true false false false v = omega (arith, ints)
gate_shared false true true true v = omega (arith, ints)
gate_shared false true true false v = omega (arith, ints)
gate_shared false true false true v = omega (arith, ints)
gate_shared false true false false v = omega (arith, ints)
gate_shared false false true true v = omega (arith, ints)
gate_shared false false true false v = omega (arith, ints)
gate_shared false false false true v = omega (arith, ints)
gate_shared false false false false v = omega (arith, ints)

module _ (contains : ℕ → Bool) (tiles : List RegionTile) (region : ℕ) where
  -- the tiles of the region
  abbrev pub from : ℕ → Bool
  from i = eqb (tile_at tiles i).region region

  abbrev pub some : ℕ → Bool
  some i = from i && is_of tiles contains i

  pub area_sum : sum_of region (area_amounts contains tiles) ≡ sum_on (λ (i : ℕ). cond (some i) (area_of (tile_at tiles i).area) (pos 0)) (indices_of tiles)
  area_sum =
      sum_on-map (λ (t : RegionTile). record { key = t.region; value = area_in contains t }) (counts_for region) tiles
      ∙ sum_by_places (λ (t : RegionTile). cond (eqb t.region region) (area_in contains t) (pos 0)) tiles
      ∙ sum_on-same (λ (i : ℕ). cond (from i) (area_in contains (tile_at tiles i)) (pos 0)) (λ (i : ℕ). cond (some i) (area_of (tile_at tiles i).area) (pos 0))
      (indices_of tiles) (λ i _. gate_both (from i) (is_of tiles contains i) (area_of (tile_at tiles i).area))

  perimeter_sum : sum_of region (perimeter_amounts contains tiles)
      ≡ sum_on (λ (i : ℕ). cond (some i) (perimeter_of (tile_at tiles i).area) (pos 0)) (indices_of tiles)
  perimeter_sum =
      sum_on-map (λ (t : RegionTile). record { key = t.region; value = perimeter_in contains t }) (counts_for region) tiles
      ∙ sum_by_places (λ (t : RegionTile). cond (eqb t.region region) (perimeter_in contains t) (pos 0)) tiles
      ∙ sum_on-same (λ (i : ℕ). cond (from i) (perimeter_in contains (tile_at tiles i)) (pos 0)) (λ (i : ℕ). cond (some i) (perimeter_of (tile_at tiles
      i).area) (pos 0))
      (indices_of tiles) (λ i _. gate_both (from i) (is_of tiles contains i) (perimeter_of (tile_at tiles i).area))

  abbrev shared : Contact → ℤ
  shared c = (one_if (some c.first && is_of tiles contains c.second) +ℤ one_if (some c.second && is_of tiles contains c.first)) *ℤ c.length

  shared_sum : (contacts : List Contact) → sum_of region (shared_amounts contains tiles contacts) ≡ pos 0 -ℤ sum_on shared contacts
  shared_sum [] = refl
  shared_sum (c ∷ cs) =
      let value = shared_in contains (tile_at tiles c.first) (tile_at tiles c.second) c.length in
      let rest = shared_sum cs in
      let here = gate_shared (from c.first) (from c.second) (is_of tiles contains c.first) (is_of tiles contains c.second) c.length in
      three (cond (from c.first) value (pos 0)) (cond (from c.second) value (pos 0)) (sum_of region (shared_amounts contains tiles cs)) (shared c) (sum_on
      shared cs) here rest
    where
      three : (a b r s t : ℤ) → a +ℤ b ≡ pos 0 -ℤ s → r ≡ pos 0 -ℤ t → a +ℤ (b +ℤ r) ≡ pos 0 -ℤ (s +ℤ t)
      three a b r s t e f = omega (arith, ints, e, f)

  pub open_sum : (contacts : List Contact) → sum_of region (perimeter_amounts contains tiles ++ shared_amounts contains tiles contacts)
      ≡ open_by_contacts tiles contacts some (is_of tiles contains)
  open_sum contacts =
      sum_on-append (counts_for region) (perimeter_amounts contains tiles) (shared_amounts contains tiles contacts)
      ∙ (λ k. perimeter_sum k +ℤ shared_sum contacts k)
      ∙ less (sum_on (λ (i : ℕ). cond (some i) (perimeter_of (tile_at tiles i).area) (pos 0)) (indices_of tiles)) (sum_on shared contacts)
    where
      less : (a b : ℤ) → a +ℤ (pos 0 -ℤ b) ≡ a -ℤ b
      less a b = omega (arith, ints)
