-- What holds of contacts holds of what is made of them.
use Rattle.fet_regions.proofs.Common.{◌≡◌, ℕ, ◌+◌, ◌<◌, pos, ◌-ℤ◌, Bool, true, false, cond, List, [], ◌∷◌, ◌++◌, filter, take, length, get_or, inl}
use Rattle.fet_regions.proofs.Common.{inr, refl, sym, ◌∙◌, ap, subst, All, slice_index, append-nil, take_more, In, In-get_or, In-index}
use Rattle.fet_regions.proofs.Common.{In-filter_source, In-map_source, Amount, Contact, RegionTile, indices_of, Lists-indices_of, are_alike}
use Rattle.fet_regions.proofs.Common.{alike_pairs, parts_beside, parts_of, Part, area_amount, perimeter_amount, area_amounts, perimeter_amounts}
use Rattle.fet_regions.proofs.Common.{shared_at, shared_amounts}
use Rattle.std.proofs.Common.{append_assoc}
use Rattle.std.specs.List.{flat_map}
use Rattle.std.proofs.lemmas.Grind.{flat_map-append}
use Rattle.std.proofs.lemmas.List.Elements.{All-map, All-append}
use Rattle.finite_sets.proofs.Members.{In-append_cases}
use Rattle.finite_sets.proofs.Searches.{All-from_In}
use Rattle.fet_regions.specs.Lengths.{parts_at}

abbrev pub AreWithin : List RegionTile → List Contact → Type 0
AreWithin tiles contacts = All (λ contact. (contact.first < length tiles) × (contact.second < length tiles)) contacts

-- one thing more
flat_more : {X Y : Type 0} (f : X → List Y) (xs : List X) (i : ℕ) (d : X) → i < length xs
    → flat_map f (take (i + 1) xs) ≡ flat_map f (take i xs) ++ f (get_or xs i d)
flat_more f xs i d inside =
    ap (flat_map f) (take_more xs i d inside) ∙ flat_map-append f (take i xs) (get_or xs i d ∷ [])
    ∙ ap (λ v. flat_map f (take i xs) ++ v) (append-nil (f (get_or xs i d)))

-- one contact more takes off what it does
pub shared_more : (tiles : List RegionTile) (labels : List ℕ) (contacts : List Contact) (i : ℕ) (d : Contact) (start before now : List Amount)
    → i < length contacts
    → before ≡ start ++ shared_amounts tiles labels (take i contacts) → now ≡ before ++ shared_at tiles labels (get_or contacts i d)
    → now ≡ start ++ shared_amounts tiles labels (take (i + 1) contacts)
shared_more tiles labels contacts i d start before now inside e f =
    f ∙ ap (λ (v : List Amount). v ++ shared_at tiles labels (get_or contacts i d)) e
    ∙ append_assoc start (shared_amounts tiles labels (take i contacts)) (shared_at tiles labels (get_or contacts i d))
    ∙ ap (λ (v : List Amount). start ++ v) (sym (flat_more (shared_at tiles labels) contacts i d inside))

-- one contact more adds its parts
pub parts_more : (test : ℕ → ℕ → Bool) (tiles : List RegionTile) (labels : List ℕ) (contacts : List Contact) (i : ℕ) (d : Contact) (before mid now : List Part)
    → i < length contacts → before ≡ parts_of test tiles labels (take i contacts)
    → mid ≡ before ++ parts_beside test tiles labels (get_or contacts i d).first (get_or contacts i d).second (get_or contacts i d).length
    → now ≡ mid ++ parts_beside test tiles labels (get_or contacts i d).second (get_or contacts i d).first (get_or contacts i d).length
    → now ≡ parts_of test tiles labels (take (i + 1) contacts)
parts_more test tiles labels contacts i d before mid now inside e f g =
    let c = get_or contacts i d in
    let first = parts_beside test tiles labels c.first c.second c.length in
    let second = parts_beside test tiles labels c.second c.first c.length in
    g ∙ ap (λ (v : List Part). v ++ second) (f ∙ ap (λ (v : List Part). v ++ first) e)
    ∙ append_assoc (parts_of test tiles labels (take i contacts)) first second ∙ sym (flat_more (parts_at test tiles labels) contacts i d inside)

-- each of the contacts
pub one_within : (tiles : List RegionTile) (contacts : List Contact) → AreWithin tiles contacts → (c : Contact) → In c contacts
    → (c.first < length tiles) × (c.second < length tiles)
one_within tiles contacts within c i =
    let x = In-index c contacts i in subst (λ (d : Contact). (d.first < length tiles) × (d.second < length tiles)) (x.1.1 c) (within x.0 c x.1.0)

-- the pairs are of tiles of the list
pub pairs_within : (tiles : List RegionTile) (contacts : List Contact) → AreWithin tiles contacts
    → All (λ (pair : ℕ × ℕ). (pair.0 < length tiles) × (pair.1 < length tiles)) (alike_pairs tiles contacts)
pairs_within tiles contacts within =
    All-from_In (λ (pair : ℕ × ℕ). (pair.0 < length tiles) × (pair.1 < length tiles)) (alike_pairs tiles contacts) (λ pair i.
    let source = In-map_source (λ (c : Contact). (c.first, c.second)) pair (filter (are_alike tiles) contacts) i in
    subst (λ (p : ℕ × ℕ). (p.0 < length tiles) × (p.1 < length tiles)) source.1.1
    (one_within tiles contacts within source.0 (In-filter_source (are_alike tiles) source.0 contacts source.1.0)))

module _ (tiles : List RegionTile) (labels : List ℕ) (count : ℕ) (below : (i : ℕ) → i < length tiles → slice_index labels i < count) where
  abbrev here : (i : ℕ) → In i (indices_of tiles) → slice_index labels i < count
  here i among = below i ((Lists-indices_of tiles).2 i among)

  -- the areas count for labels
  pub area_keys : All (λ (amount : Amount). amount.key < count) (area_amounts tiles labels)
  area_keys = All-map (λ (a : Amount). a.key < count) (area_amount tiles labels) (indices_of tiles)
      (λ k d inside. here (get_or (indices_of tiles) k d) (In-get_or (indices_of tiles) k d inside))

  perimeter_keys : All (λ (amount : Amount). amount.key < count) (perimeter_amounts tiles labels)
  perimeter_keys = All-map (λ (a : Amount). a.key < count) (perimeter_amount tiles labels) (indices_of tiles)
      (λ k d inside. here (get_or (indices_of tiles) k d) (In-get_or (indices_of tiles) k d inside))

  two_keys : (t : Bool) (a b : Amount) → a.key < count → b.key < count → (amount : Amount) → In amount (cond t (a ∷ b ∷ []) []) → amount.key < count
  two_keys true a b p q amount (inl e) = subst (λ (v : Amount). v.key < count) e p
  two_keys true a b p q amount (inr (inl e)) = subst (λ (v : Amount). v.key < count) e q
  two_keys true a b p q amount (inr (inr i)) = absurd i
  two_keys false a b p q amount i = absurd i

  shared_keys : (contacts : List Contact) → ((c : Contact) → In c contacts → (c.first < length tiles) × (c.second < length tiles))
      → (amount : Amount) → In amount (shared_amounts tiles labels contacts) → amount.key < count
  shared_keys [] within amount i = absurd i
  shared_keys (c ∷ cs) within amount i =
      let first : Amount = record { key = slice_index labels c.first; value = pos 0 -ℤ c.length } in
      let second : Amount = record { key = slice_index labels c.second; value = pos 0 -ℤ c.length } in
      let inside = within c (inl refl) in
      elim (In-append_cases amount (cond (are_alike tiles c) (first ∷ second ∷ []) []) (shared_amounts tiles labels cs) i) [
        | inl j ↦ two_keys (are_alike tiles c) first second (below c.first inside.0) (below c.second inside.1) amount j
        | inr j ↦ shared_keys cs (λ d k. within d (inr k)) amount j
      ]

  -- and the perimeters with what contacts take off them
  pub all_keys : (contacts : List Contact) → AreWithin tiles contacts
      → All (λ (amount : Amount). amount.key < count) (perimeter_amounts tiles labels ++ shared_amounts tiles labels contacts)
  all_keys contacts within = All-append (λ (a : Amount). a.key < count) (perimeter_amounts tiles labels) (shared_amounts tiles labels contacts) perimeter_keys
      (All-from_In (λ (a : Amount). a.key < count) (shared_amounts tiles labels contacts) (shared_keys contacts (one_within tiles contacts within)))
