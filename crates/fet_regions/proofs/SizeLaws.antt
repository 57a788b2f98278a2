-- The amounts of tiles and contacts, summed by label, are what the tiles of a channel count.
use Rattle.fet_regions.proofs.Common.{◌≡◌, ℕ, ◌<◌, ℤ, pos, ◌+ℤ◌, ◌-ℤ◌, ◌*ℤ◌, Bool, true, false, cond, eqb, ◌&&◌, List, [], ◌∷◌, ◌++◌, length, inl}
use Rattle.fet_regions.proofs.Common.{inr, refl, sym, ◌∙◌, ap, arith, slice_index, ints, and_parts, In, sum_on, one_if, Amount, Contact, area_of}
use Rattle.fet_regions.proofs.Common.{perimeter_of, RegionTile, tile_at, indices_of, open_by_contacts, Lists-indices_of, one_plane, same_from_test}
use Rattle.fet_regions.proofs.Common.{are_alike, area_amount, perimeter_amount, area_amounts, perimeter_amounts, shared_at, shared_amounts}
use Rattle.finite_sets.proofs.Sums.{sum_on-append, sum_on-map, sum_on-same}
use Rattle.key_sums.specs.Amounts.{counts_for, sum_of}
use Rattle.flood_nodes.specs.TileShares.{is_of}
use Rattle.fet_regions.proofs.ChannelLaws.{is_of_channel}

-- of two tiles in a class that share an edge: the second is of the class where they are alike and the first is
first_alike : (f a b t : Bool) → (f ≡ true → a ≡ true) → (t ≡ true → a ≡ b) → (a ≡ true → b ≡ true → t ≡ true) → (f && b) ≡ (t && f)
first_alike false a b true h same both = refl
first_alike false a b false h same both = refl
first_alike true a true true h same both = refl
first_alike true a false false h same both = refl
first_alike true a true false h same both = sym (both (h refl) refl)
first_alike true a false true h same both = sym (sym (h refl) ∙ same refl)

-- what a contact takes off
contact_off : (t f s : Bool) (v : ℤ) → cond t (cond f (pos 0 -ℤ v) (pos 0) +ℤ (cond s (pos 0 -ℤ v) (pos 0) +ℤ pos 0)) (pos 0)
    ≡ pos 0 -ℤ ((one_if (t && f) +ℤ one_if (t && s)) *ℤ v)
contact_off true true true v = omega (arith, ints)
contact_off true true false v = omega (arith, ints)
contact_off true false true v = omega (arith, ints)
contact_off true false false v = omega (arith, ints)
contact_off false f s v = omega (arith, ints)

sum_of-if : (label : ℕ) (t : Bool) (a b : Amount) → sum_of label (cond t (a ∷ b ∷ []) [])
    ≡ cond t (counts_for label a +ℤ (counts_for label b +ℤ pos 0)) (pos 0)
sum_of-if label true a b = refl
sum_of-if label false a b = refl

module _ (tiles : List RegionTile) (labels : List ℕ) (kind label : ℕ)
    (of_label : (i : ℕ) → i < length tiles → eqb (slice_index labels i) label ≡ is_of_channel tiles labels kind label i) where
  abbrev from : ℕ → Bool
  from = is_of_channel tiles labels kind label

  abbrev of_kind : ℕ → Bool
  of_kind = is_of tiles (λ t. eqb t kind)

  by_places : (w : ℕ → ℤ) → sum_on (λ (i : ℕ). cond (eqb (slice_index labels i) label) (w i) (pos 0)) (indices_of tiles)
      ≡ sum_on (λ (i : ℕ). cond (from i) (w i) (pos 0)) (indices_of tiles)
  by_places w = sum_on-same (λ (i : ℕ). cond (eqb (slice_index labels i) label) (w i) (pos 0)) (λ (i : ℕ). cond (from i) (w i) (pos 0)) (indices_of tiles)
      (λ i among. ap (λ (t : Bool). cond t (w i) (pos 0)) (of_label i ((Lists-indices_of tiles).2 i among)))

  pub area_sum : sum_of label (area_amounts tiles labels) ≡ sum_on (λ (i : ℕ). cond (from i) (area_of (tile_at tiles i).area) (pos 0)) (indices_of tiles)
  area_sum = sum_on-map (area_amount tiles labels) (counts_for label) (indices_of tiles) ∙ by_places (λ (i : ℕ). area_of (tile_at tiles i).area)

  perimeter_sum : sum_of label (perimeter_amounts tiles labels)
      ≡ sum_on (λ (i : ℕ). cond (from i) (perimeter_of (tile_at tiles i).area) (pos 0)) (indices_of tiles)
  perimeter_sum = sum_on-map (perimeter_amount tiles labels) (counts_for label) (indices_of tiles) ∙ by_places (λ (i : ℕ). perimeter_of (tile_at tiles i).area)

  abbrev shared : Contact → ℤ
  shared c = (one_if (from c.first && of_kind c.second) +ℤ one_if (from c.second && of_kind c.first)) *ℤ c.length

  alike_kinds : (i j : ℕ) → eqb (tile_at tiles i).kind.0 (tile_at tiles j).kind.0 ≡ true → of_kind i ≡ of_kind j
  alike_kinds i j e = ap (λ (k : ℕ). eqb k kind) (same_from_test (tile_at tiles i).kind.0 (tile_at tiles j).kind.0 e)

  both_alike : (i j : ℕ) → of_kind i ≡ true → of_kind j ≡ true → eqb (tile_at tiles i).kind.0 (tile_at tiles j).kind.0 ≡ true
  both_alike i j e f = one_plane (tile_at tiles i).kind.0 (tile_at tiles j).kind.0
      (same_from_test (tile_at tiles i).kind.0 kind e ∙ sym (same_from_test (tile_at tiles j).kind.0 kind f))

  from_of_kind : (i : ℕ) → from i ≡ true → of_kind i ≡ true
  from_of_kind i e = (and_parts (of_kind i) (eqb (slice_index labels i) label) e).0

  contact_sum : (c : Contact) → (c.first < length tiles) × (c.second < length tiles) → sum_of label (shared_at tiles labels c) ≡ pos 0 -ℤ shared c
  contact_sum c within =
      let t = are_alike tiles c in
      let f = of_label c.first within.0 in
      let s = of_label c.second within.1 in
      let first = first_alike (from c.first) (of_kind c.first) (of_kind c.second) t (from_of_kind c.first) (alike_kinds c.first c.second)
      (both_alike c.first c.second) in
      let second = first_alike (from c.second) (of_kind c.second) (of_kind c.first) t (from_of_kind c.second) (λ e. sym (alike_kinds c.first c.second e))
      (λ e g. both_alike c.first c.second g e) in
      sum_of-if label t (record { key = slice_index labels c.first; value = pos 0 -ℤ c.length }) (record {
        key = slice_index labels c.second;
        value = pos 0
            -ℤ c.length;
      })
      ∙ (λ k. cond t (cond (f k) (pos 0 -ℤ c.length) (pos 0) +ℤ (cond (s k) (pos 0 -ℤ c.length) (pos 0) +ℤ pos 0)) (pos 0))
      ∙ contact_off t (from c.first) (from c.second) c.length
      ∙ (λ k. pos 0 -ℤ ((one_if (sym first k) +ℤ one_if (sym second k)) *ℤ c.length))

  shared_sum : (contacts : List Contact) → ((c : Contact) → In c contacts → (c.first < length tiles) × (c.second < length tiles))
      → sum_of label (shared_amounts tiles labels contacts) ≡ pos 0 -ℤ sum_on shared contacts
  shared_sum [] within = refl
  shared_sum (c ∷ cs) within =
      let here = contact_sum c (within c (inl refl)) in
      let rest = shared_sum cs (λ d i. within d (inr i)) in
      sum_on-append (counts_for label) (shared_at tiles labels c) (shared_amounts tiles labels cs)
      ∙ together (sum_of label (shared_at tiles labels c)) (sum_of label (shared_amounts tiles labels cs)) (shared c) (sum_on shared cs) here rest
    where
      together : (a r s t : ℤ) → a ≡ pos 0 -ℤ s → r ≡ pos 0 -ℤ t → a +ℤ r ≡ pos 0 -ℤ (s +ℤ t)
      together a r s t e f = omega (arith, ints, e, f)

  -- the edges out of the channel
  pub open_sum : (contacts : List Contact) → ((c : Contact) → In c contacts → (c.first < length tiles) × (c.second < length tiles))
      → sum_of label (perimeter_amounts tiles labels ++ shared_amounts tiles labels contacts) ≡ open_by_contacts tiles contacts from of_kind
  open_sum contacts within =
      sum_on-append (counts_for label) (perimeter_amounts tiles labels) (shared_amounts tiles labels contacts)
      ∙ (λ k. perimeter_sum k +ℤ shared_sum contacts within k)
      ∙ less (sum_on (λ (i : ℕ). cond (from i) (perimeter_of (tile_at tiles i).area) (pos 0)) (indices_of tiles)) (sum_on shared contacts)
    where
      less : (a b : ℤ) → a +ℤ (pos 0 -ℤ b) ≡ a -ℤ b
      less a b = omega (arith, ints)
