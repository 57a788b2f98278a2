-- What a change of one slot does to the count of the values and to the chain of the empty slots.
use Rattle.tile_arena.proofs.Common.{◌≡◌, ℕ, zero, suc, ◌+◌, ◌-◌, ◌<◌, ◌≤◌, List, [], ◌∷◌, ◌++◌, map, length, get_or, set, Some, slice_get, refl}
use Rattle.tile_arena.proofs.Common.{sym, ap, ◌∙◌, arith, length-set, map_push, length-map, length_push, get_or-set_same, get_or_past}
use Rattle.tile_arena.proofs.Common.{slice_get_within, slice_get-get_or, get_or_from_slice_get, Slot, Live, Empty, value_of, BLOCK_SIZE}
use Rattle.std.proofs.Common.{◌≢◌, ◌⊎◌, ◌*◌, None}
use Rattle.std.proofs.Common.{is_some, IsSome, count_by, cond, subst, inl, inr, true≢false}
use Rattle.std.proofs.lemmas.List.{map-set, get_or-map, get_or-set_other}
use Rattle.std.proofs.lemmas.List.Sums.{sum_by-set, sum_by_push}
use Rattle.tile_arena.specs.Slots.{IsEmptyChain, IsSound}
use Rattle.tile_arena.specs.declared.limits.TheConstants.{MOST_VALUES}

module _ {T : Type 0} where
  -- from a number there is one chain of empty slots at most
  pub IsEmptyChain-count_unique : (slots : List (Slot T)) (m n number : ℕ) → IsEmptyChain slots m number → IsEmptyChain slots n number → m ≡ n
  IsEmptyChain-count_unique slots zero zero number p q = refl
  IsEmptyChain-count_unique slots zero (suc n) number p q = absurd (omega (arith, slice_get_within slots number _ q.1))
  IsEmptyChain-count_unique slots (suc m) zero number p q = absurd (omega (arith, slice_get_within slots number _ p.1))
  IsEmptyChain-count_unique slots (suc m) (suc n) number p q =
      let first = p.1 in
      let second = q.1 in
      let same : q.0 ≡ p.0 = cc in
      ap suc (IsEmptyChain-count_unique slots m n p.0 p.2 (subst (IsEmptyChain slots n) same q.2))

  -- a write in a slot that is not in the chain keeps the chain
  pub IsEmptyChain-set : (slots : List (Slot T)) (number : ℕ) (e : Slot T) (n from : ℕ) → ((m : ℕ) → m < n → IsEmptyChain slots (suc m) number → ⊥)
      → IsEmptyChain slots n from → IsEmptyChain (set slots number e) n from
  IsEmptyChain-set slots number e zero from off p = p ∙ sym (length-set slots number e)
  IsEmptyChain-set slots number e (suc n) from off p =
      let other : from ≢ number = λ same. off n (omega arith) (subst (IsEmptyChain slots (suc n)) same p) in
      let within = slice_get_within slots from _ p.1 in
      let kept : slice_get (set slots number e) from ≡ Some (Empty p.0) =
      slice_get-get_or (set slots number e) from e (omega (arith, length-set slots number e))
      ∙ ap Some (get_or-set_other slots number from e e other ∙ get_or_from_slice_get slots from _ e p.1) in
      (p.0, kept, IsEmptyChain-set slots number e n p.0 (λ m below. off m (omega arith)) p.2)

  -- a slot with a value is in no such chain
  pub value_is_off_chain : (slots : List (Slot T)) (number : ℕ) (value : T) → slice_get slots number ≡ Some (Live value) → (m : ℕ)
      → IsEmptyChain slots (suc m) number → ⊥
  value_is_off_chain slots number value found m p = let listed = p.1 in cc

  -- how many values there are after a write
  pub count-set : (slots : List (Slot T)) (number : ℕ) (old new : Slot T) → slice_get slots number ≡ Some old
      → count_by is_some (map value_of (set slots number new)) + cond (is_some (value_of old)) 1 0 ≡ count_by is_some (map value_of slots) + cond
      (is_some (value_of new)) 1 0
  count-set slots number old new found =
      let within = slice_get_within slots number old found in
      let read : get_or (map value_of slots) number None ≡ value_of old =
      get_or-map value_of slots number old None within ∙ ap value_of (get_or_from_slice_get slots number old old found) in
      let counted = sum_by-set (λ o. cond (is_some o) 1 0) (map value_of slots) number (value_of new) None (omega (arith, length-map slots value_of)) in
      rw (map-set value_of slots number new, ← read) counted

  -- where a number has a value, its slot holds it
  pub live_at : (slots : List (Slot T)) (number : ℕ) → IsSome (get_or (map value_of slots) number None)
      → (value : T) × (slice_get slots number ≡ Some (Live value))
  live_at slots number present =
      let inside : number < length (map value_of slots) = grind (arith, get_or_past) in
      let within : number < length slots = omega (arith, length-map slots value_of) in
      by_slot (get_or slots number (Empty 0)) (slice_get-get_or slots number (Empty 0) within)
      (subst IsSome (get_or-map value_of slots number (Empty 0) None within) present)
    where
      by_slot : (e : Slot T) → slice_get slots number ≡ Some e → IsSome (value_of e) → (value : T) × (slice_get slots number ≡ Some (Live value))
      by_slot (Empty _) found some = absurd (true≢false (sym some))
      by_slot (Live value) found some = (value, found)

  -- what a number has is the value of its slot
  pub value_at_slot : (slots : List (Slot T)) (number : ℕ) (slot : Slot T) → slice_get slots number ≡ Some slot
      → get_or (map value_of slots) number None ≡ value_of slot
  value_at_slot slots number slot found =
      get_or-map value_of slots number slot None (slice_get_within slots number slot found) ∙ ap value_of (get_or_from_slice_get slots number slot slot found)

  module _ (slots : List (Slot T)) (capacity live next : ℕ) (sound : IsSound slots capacity live next) where
    -- either all slots have values and the chain starts at their end, or it starts at an empty slot
    pub next_cases : ((next ≡ length slots) × (live ≡ length slots)) ⊎ ((after : ℕ) × (slice_get slots next ≡ Some (Empty after)))
    next_cases = by_count sound.empty sound.total sound.chained
      where
        by_count : (n : ℕ) → live + n ≡ length slots → IsEmptyChain slots n next
            → ((next ≡ length slots) × (live ≡ length slots)) ⊎ ((after : ℕ) × (slice_get slots next ≡ Some (Empty after)))
        by_count zero total chained = inl (chained, omega arith)
        by_count (suc n) total chained = inr (chained.0, chained.1)

    -- where the chain starts at the end, no slot is empty
    pub full_at_end : next ≡ length slots → live ≡ length slots
    full_at_end at_end =
        elim next_cases [ inl full ↦ full.1 | inr found ↦ omega (arith, slice_get_within slots next _ found.1) ]

    -- where it starts before the end, an empty slot is there
    pub empty_before_end : next ≢ length slots → (after : ℕ) × (slice_get slots next ≡ Some (Empty after))
    empty_before_end before = elim next_cases [ inl full ↦ absurd (before full.0) | inr found ↦ found ]

    pub next_within : next ≢ length slots → next < length slots
    next_within before = slice_get_within slots next _ (empty_before_end before).1

    -- the number that the chain starts at has no value
    pub next_is_free : get_or (map value_of slots) next None ≡ None
    next_is_free =
        elim next_cases [
          | inl full ↦ get_or_past (map value_of slots) next None (omega (arith, length-map slots value_of))
          | inr found ↦ value_at_slot slots next _ found.1
        ]

    pub IsSound-push : (value : T) → next ≡ length slots → length slots < capacity → IsSound (slots ++ Live value ∷ []) capacity (live + 1) (next + 1)
    IsSound-push value at_end room =
        let full = full_at_end at_end in
        let longer = length_push slots (Live value) in
        record {
          counted = rw (map_push value_of slots (Live value), sum_by_push (λ o. cond (is_some o) 1 0) (map value_of slots) (Some value))
              (ap (λ n. n + 1) sound.counted);
          empty = 0;
          total = omega arith;
          chained = omega arith;
          roomy = omega arith;
          whole = sound.whole;
          bounded = sound.bounded;
        }

    -- The first slot of the chain gets a value: the rest of the chain is shorter, so it does not come back there.
    pub IsSound-fill : (after : ℕ) (value : T) → slice_get slots next ≡ Some (Empty after) → IsSound (set slots next (Live value)) capacity (live + 1) after
    IsSound-fill after value found = by_count sound.empty sound.total sound.chained
      where
        by_count : (n : ℕ) → live + n ≡ length slots → IsEmptyChain slots n next → IsSound (set slots next (Live value)) capacity (live + 1) after
        by_count zero total chained = absurd (omega (arith, slice_get_within slots next _ found))
        by_count (suc n) total chained =
            let listed = chained.1 in
            let same : chained.0 ≡ after = cc in
            let off : (m : ℕ) → m < n → IsEmptyChain slots (suc m) next → ⊥ =
            λ m below p. omega (arith, IsEmptyChain-count_unique slots (suc m) (suc n) next p chained) in
            record {
              counted = omega (arith, sound.counted, count-set slots next (Empty after) (Live value) found);
              empty = n;
              total = omega (arith, length-set slots next (Live value));
              chained = IsEmptyChain-set slots next (Live value) n after off (subst (IsEmptyChain slots n) same chained.2);
              roomy = omega (arith, sound.roomy, length-set slots next (Live value));
              whole = sound.whole;
              bounded = sound.bounded;
            }

    pub IsSound-vacate : (number : ℕ) (value : T) → slice_get slots number ≡ Some (Live value)
        → IsSound (set slots number (Empty next)) capacity (live - 1) number
    IsSound-vacate number value found =
        let within = slice_get_within slots number _ found in
        let count = count-set slots number (Live value) (Empty next) found in
        let counted = sound.counted in
        let total = sound.total in
        let roomy = sound.roomy in
        let written : slice_get (set slots number (Empty next)) number ≡ Some (Empty next) =
        slice_get-get_or _ number (Empty next) (omega (arith, length-set slots number (Empty next)))
        ∙ ap Some (get_or-set_same slots number (Empty next) (Empty next) within) in
        record {
          counted = omega arith;
          empty = suc sound.empty;
          total = omega (arith, length-set slots number (Empty next));
          chained = (
            next,
            written,
            IsEmptyChain-set slots number (Empty next) sound.empty next
                (λ m _. value_is_off_chain slots number value found m) sound.chained,
          );
          roomy = omega (arith, length-set slots number (Empty next));
          whole = sound.whole;
          bounded = sound.bounded;
        }

    pub IsSound-rewrite : (number : ℕ) (old new : T) → slice_get slots number ≡ Some (Live old) → IsSound (set slots number (Live new)) capacity live next
    IsSound-rewrite number old new found =
        record {
          counted = omega (arith, sound.counted, count-set slots number (Live old) (Live new) found);
          empty = sound.empty;
          total = omega (arith, sound.total, length-set slots number (Live new));
          chained = IsEmptyChain-set slots number (Live new) sound.empty next (λ m _. value_is_off_chain slots number old found m) sound.chained;
          roomy = omega (arith, sound.roomy, length-set slots number (Live new));
          whole = sound.whole;
          bounded = sound.bounded;
        }

    -- a value that is there was counted
    pub live_positive : (number : ℕ) (value : T) → slice_get slots number ≡ Some (Live value) → 1 ≤ live
    live_positive number value found = omega (arith, sound.counted, count-set slots number (Live value) (Empty 0) found)

    -- more room changes nothing else
    pub IsSound-grown : (more : ℕ) → capacity + BLOCK_SIZE * more ≤ MOST_VALUES → IsSound slots (capacity + BLOCK_SIZE * more) live next
    IsSound-grown more bounded =
        record {
          counted = sound.counted;
          empty = sound.empty;
          total = sound.total;
          chained = sound.chained;
          roomy = omega (arith, sound.roomy);
          whole = omega (arith, sound.whole);
          bounded = bounded;
        }
