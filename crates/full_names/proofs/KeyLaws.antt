-- The keys of names.
use Rattle.full_names.proofs.Common.{◌≡◌, ◌≢◌, ℕ, ◌+◌, ◌<◌, Bool, List, [], ◌∷◌, ◌++◌, length, get_or, inl, inr, refl, sym, ◌∙◌, ap, subst, arith}
use Rattle.full_names.proofs.Common.{length-append, IsPermutation, IsSorted, cases_lt, get_or_append_left, get_or_push, IsPermutation-sym, In}
use Rattle.full_names.proofs.Common.{In-push_cases, In-append_left, In-push, In-permutation, AllPairs-permutation, TreeElement, RecordNames, NameKey}
use Rattle.full_names.proofs.Common.{Place, name_kind, flat_at, place_at, text_at, is_generated, key_at, key_cmp, AreKeys}
use Rattle.std.proofs.lemmas.List.Sorted.{length_permutation}
use Rattle.full_names.specs.steps.Keys.{IsKey}

-- the key of an element's name by what is read of the name
abbrev pub key_made : TreeElement → List ℕ → Bool → ℕ → NameKey
key_made flat text generated slot = record {
  generated = generated;
  depth = flat.depth;
  length = flat.bytes + length text;
  rank = flat.rank;
  slot = slot;
}

module _ (flats : List TreeElement) (records : List RecordNames) (places : List Place) where
  -- the key of the name with this number
  abbrev pub slot_key : ℕ → NameKey
  slot_key slot = key_at flats records (place_at places slot) slot

  -- The keys of the first so many names, in the order of their numbers.
  pub record AreKeysBelow (end : ℕ) (keys : List NameKey) : Type 0 where
    pub long : length keys ≡ end
    pub each : (key : NameKey) → In key keys → IsKey flats records places key
    pub all : (slot : ℕ) → slot < end → In (slot_key slot) keys
    pub slots : (i : ℕ) (d : NameKey) → i < end → (get_or keys i d).slot ≡ i

  pub keys_none : (keys : List NameKey) → keys ≡ [] → AreKeysBelow 0 keys
  keys_none keys none = record {
    long = ap length none;
    each = λ key here. absurd (subst (In key) none here);
    all = λ slot below. absurd (omega arith);
    slots = λ i d below. absurd (omega arith);
  }

  pub keys_more : (k : ℕ) (keys now : List NameKey) → k < length places → now ≡ keys ++ slot_key k ∷ [] → AreKeysBelow k keys → AreKeysBelow (k + 1) now
  keys_more k keys now within pushed so_far =
      let made : AreKeysBelow (k + 1) (keys ++ slot_key k ∷ []) = record {
        long = let n = length-append keys (slot_key k ∷ []) in let long = so_far.long in omega arith;
        each = λ key here.
            elim (In-push_cases key keys (slot_key k) here) [
              | inl old ↦ so_far.each key old
              | inr new ↦ subst (IsKey flats records places) new (record { within = within; is = refl })
            ];
        all = λ slot below.
            elim (cases_lt slot k) [
              | inl before ↦ In-append_left (slot_key slot) keys (slot_key k ∷ []) (so_far.all slot before)
              | inr here ↦ (let same : k ≡ slot = omega arith in
                  subst (λ (s : ℕ). In (slot_key s) (keys ++ slot_key k ∷ [])) same (In-push keys (slot_key k)))
            ];
        slots = λ i d below.
            elim (cases_lt i k) [
              | inl before ↦ (let long = so_far.long in
                  ap (λ (key : NameKey). key.slot) (get_or_append_left keys (slot_key k ∷ []) d i (omega arith)) ∙ so_far.slots i d before)
              | inr here ↦ (let same : k ≡ i = omega arith in
                  ap (λ (key : NameKey). key.slot) (get_or_push keys (slot_key k) d i (so_far.long ∙ same)) ∙ same)
            ];
      } in
      subst (AreKeysBelow (k + 1)) (sym pushed) made

  pub keys_all : (end : ℕ) (keys sorted : List NameKey) → end ≡ length places → AreKeysBelow end keys → IsPermutation keys sorted → IsSorted key_cmp sorted
      → AreKeys flats records places sorted
  keys_all end keys sorted all so_far moved in_order = record {
    long = length_permutation keys sorted moved ∙ so_far.long ∙ all;
    each = λ key here. so_far.each key (In-permutation key sorted keys (IsPermutation-sym keys sorted moved) here);
    all = λ slot below. In-permutation (slot_key slot) keys sorted moved (so_far.all slot (omega arith));
    apart = AllPairs-permutation (λ (a b : NameKey). a.slot ≢ b.slot) (λ a b differ same. differ (sym same)) keys sorted moved
        (λ i j d less below same.
        let long = so_far.long in
        let first = so_far.slots i d (omega arith) in
        let second = so_far.slots j d (omega arith) in
        let one : i ≡ j = sym first ∙ same ∙ second in
        omega arith);
    in_order = in_order;
  }

-- a key whose numbers are read for a place
pub key_read : (flats items : List TreeElement) (records : List RecordNames) (place : Place) (slot : ℕ) (text : List ℕ) (generated : Bool) → items ≡ flats
    → text ≡ text_at flats records place → generated ≡ is_generated (name_kind text)
    → key_made (flat_at items place.element) text generated slot ≡ key_at flats records place slot
key_read flats items records place slot text generated same is_text told =
    let flat : flat_at items place.element ≡ flat_at flats place.element = ap (λ (list : List TreeElement). flat_at list place.element) same in
    let last : generated ≡ is_generated (name_kind (text_at flats records place)) = told ∙ ap (λ (t : List ℕ). is_generated (name_kind t)) is_text in
    λ k. record {
      generated = last k;
      depth = (flat k).depth;
      length = (flat k).bytes + length (is_text k);
      rank = (flat k).rank;
      slot = slot;
    }
