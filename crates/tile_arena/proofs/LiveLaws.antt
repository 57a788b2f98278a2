-- The finite map of the values that the slots hold, and what one slot does to it.
use Rattle.tile_arena.proofs.Common.{◌≡◌, ℕ, zero, suc, ◌+◌, ◌<◌, List, [], ◌∷◌, ◌++◌, map, length, get_or, set, Some, slice_get, refl, sym, ap, ◌∙◌}
use Rattle.tile_arena.proofs.Common.{arith, map_push, length-map, get_or-set_same, Slot, Live, Empty, value_of}
use Rattle.std.proofs.Common.{◌≢◌, Bool, true, false, Option, None}
use Rattle.std.proofs.Common.{is_some, IsSome, count_by, cond, inl, inr, add-zero, zero-add}
use Rattle.std.proofs.lemmas.Bool.{cases_eq}
use Rattle.std.proofs.lemmas.Bool.Decides.{nat_tests}
use Rattle.std.proofs.lemmas.List.{map-set, get_or-set_other}
use Rattle.std.proofs.lemmas.List.Sums.{sum_by-cons}
use Rattle.std.specs.Ordering.{nat_cmp, eq_by_cmp}
use Rattle.std.specs.Cmp.{nat_cmp_total, unsigned_tied}
use Rattle.std.specs.FinMap as fin_map
use Rattle.std.specs.FinMap.{FinMap}
use Rattle.tile_arena.specs.Slots.{live_from}
use Rattle.tile_arena.proofs.SlotLaws.{live_at, value_at_slot}

tied_same : (k : ℕ) → eq_by_cmp nat_cmp k k ≡ true
tied_same k = unsigned_tied k k ∙ grind (arith, nat_tests)

-- keys that differ do not tie
pub tied_other : (q k : ℕ) → q ≢ k → eq_by_cmp nat_cmp q k ≡ false
tied_other q k apart = unsigned_tied q k ∙ grind (arith, nat_tests)

module _ {T : Type 0} where
  get-insert_same : (m : FinMap nat_cmp T) (k : ℕ) (v : T) → fin_map.get (fin_map.insert m k v) k ≡ Some v
  get-insert_same m k v = fin_map.get-insert nat_cmp_total m k v k ∙ ap (λ (b : Bool). cond b (Some v) (fin_map.get m k)) (tied_same k)

  get-insert_other : (m : FinMap nat_cmp T) (k : ℕ) (v : T) (q : ℕ) → q ≢ k → fin_map.get (fin_map.insert m k v) q ≡ fin_map.get m q
  get-insert_other m k v q apart = fin_map.get-insert nat_cmp_total m k v q ∙ ap (λ (b : Bool). cond b (Some v) (fin_map.get m q)) (tied_other q k apart)

  get-remove_same : (m : FinMap nat_cmp T) (k : ℕ) → fin_map.get (fin_map.remove m k) k ≡ None
  get-remove_same m k = fin_map.get-remove nat_cmp_total m k k ∙ ap (λ (b : Bool). cond b None (fin_map.get m k)) (tied_same k)

  get-remove_other : (m : FinMap nat_cmp T) (k q : ℕ) → q ≢ k → fin_map.get (fin_map.remove m k) q ≡ fin_map.get m q
  get-remove_other m k q apart = fin_map.get-remove nat_cmp_total m k q ∙ ap (λ (b : Bool). cond b None (fin_map.get m q)) (tied_other q k apart)

  -- maps that answer alike everywhere are one map
  same_values : (m n : FinMap nat_cmp T) → ((q : ℕ) → fin_map.get m q ≡ fin_map.get n q) → m ≡ n
  same_values = fin_map.same_map nat_cmp_total fin_map.nat_cmp-IsAntisymmetric

  -- before the first number there is no value
  none_below : (number : ℕ) (slots : List (Slot T)) (q : ℕ) → q < number → fin_map.get (live_from number slots) q ≡ None
  none_below number [] q low = fin_map.get-empty nat_cmp q
  none_below number (Live value ∷ slots) q low =
      get-insert_other _ number value q (λ e. omega arith) ∙ none_below (number + 1) slots q (omega arith)
  none_below number (Empty _ ∷ slots) q low = none_below (number + 1) slots q (omega arith)

  get-live_from : (number : ℕ) (slots : List (Slot T)) (i : ℕ) → fin_map.get (live_from number slots) (number + i) ≡ get_or (map value_of slots) i None
  get-live_from number [] i = fin_map.get-empty nat_cmp _
  get-live_from number (Live value ∷ slots) zero = rw add-zero (get-insert_same _ number value)
  get-live_from number (Live value ∷ slots) (suc i) =
      let shift : number + suc i ≡ number + 1 + i = omega arith in
      get-insert_other _ number value (number + suc i) (λ e. omega arith)
      ∙ ap (fin_map.get (live_from (number + 1) slots)) shift ∙ get-live_from (number + 1) slots i
  get-live_from number (Empty _ ∷ slots) zero = none_below (number + 1) slots (number + 0) (omega arith)
  get-live_from number (Empty _ ∷ slots) (suc i) =
      let shift : number + suc i ≡ number + 1 + i = omega arith in
      ap (fin_map.get (live_from (number + 1) slots)) shift ∙ get-live_from (number + 1) slots i

  -- the map has under each number what the slot of that number holds
  pub get-live : (slots : List (Slot T)) (i : ℕ) → fin_map.get (live_from 0 slots) i ≡ get_or (map value_of slots) i None
  get-live slots i = ap (fin_map.get (live_from 0 slots)) (sym (zero-add i)) ∙ get-live_from 0 slots i

  -- and as many values as the slots hold
  pub len-live_from : (number : ℕ) (slots : List (Slot T)) → fin_map.len (live_from number slots) ≡ count_by is_some (map value_of slots)
  len-live_from number [] = fin_map.len-empty nat_cmp T
  len-live_from number (Live value ∷ slots) =
      let fresh : is_some (fin_map.get (live_from (number + 1) slots) number) ≡ false = ap is_some (none_below (number + 1) slots number (omega arith)) in
      let more = fin_map.len-insert nat_cmp_total (live_from (number + 1) slots) number value in
      let rest = len-live_from (number + 1) slots in
      let head = sum_by-cons (λ o. cond (is_some o) 1 0) (Some value) (map value_of slots) in
      more ∙ ap (λ (b : Bool). cond b (fin_map.len (live_from (number + 1) slots)) (fin_map.len (live_from (number + 1) slots) + 1)) fresh ∙ omega arith
  len-live_from number (Empty next ∷ slots) =
      let rest = len-live_from (number + 1) slots in
      let head = sum_by-cons (λ o. cond (is_some o) 1 0) None (map value_of slots) in
      omega arith

  get_or-push_other : (xs : List (Option T)) (x : Option T) (q : ℕ) → q ≢ length xs → get_or (xs ++ x ∷ []) q None ≡ get_or xs q None
  get_or-push_other [] x zero apart = absurd (apart refl)
  get_or-push_other [] x (suc q) apart = refl
  get_or-push_other (y ∷ ys) x zero apart = refl
  get_or-push_other (y ∷ ys) x (suc q) apart = get_or-push_other ys x q (λ e. apart (ap suc e))

  get_or-push_same : (xs : List (Option T)) (x : Option T) (q : ℕ) → q ≡ length xs → get_or (xs ++ x ∷ []) q None ≡ x
  get_or-push_same [] x zero is = refl
  get_or-push_same [] x (suc q) is = absurd (omega arith)
  get_or-push_same (y ∷ ys) x zero is = absurd (omega arith)
  get_or-push_same (y ∷ ys) x (suc q) is = get_or-push_same ys x q (omega arith)

  -- a slot with a value is added
  pub live-push : (slots : List (Slot T)) (value : T) → live_from 0 (slots ++ Live value ∷ []) ≡ fin_map.insert (live_from 0 slots) (length slots) value
  live-push slots value = same_values _ _ (λ q. get-live _ q ∙ ap (λ xs. get_or xs q None) (map_push value_of slots (Live value)) ∙ at q)
    where
      at : (q : ℕ) → get_or (map value_of slots ++ Some value ∷ []) q None ≡ fin_map.get (fin_map.insert (live_from 0 slots) (length slots) value) q
      at q = elim (cases_eq q (length slots)) [
        | inl same ↦ get_or-push_same (map value_of slots) (Some value) q (same ∙ sym (length-map slots value_of))
            ∙ sym (rw same (get-insert_same _ (length slots) value))
        | inr apart ↦ get_or-push_other (map value_of slots) (Some value) q (λ e. apart (e ∙ length-map slots value_of))
            ∙ sym (get-insert_other _ (length slots) value q apart ∙ get-live slots q)
      ]

  -- a value is put into a slot
  pub live-set : (slots : List (Slot T)) (i : ℕ) (value : T) → i < length slots
      → live_from 0 (set slots i (Live value)) ≡ fin_map.insert (live_from 0 slots) i value
  live-set slots i value within = same_values _ _ (λ q. get-live _ q ∙ ap (λ xs. get_or xs q None) (map-set value_of slots i (Live value)) ∙ at q)
    where
      at : (q : ℕ) → get_or (set (map value_of slots) i (Some value)) q None ≡ fin_map.get (fin_map.insert (live_from 0 slots) i value) q
      at q = elim (cases_eq q i) [
        | inl same ↦ rw same (get_or-set_same (map value_of slots) i (Some value) None (omega (arith, length-map slots value_of))
            ∙ sym (get-insert_same _ i value))
        | inr apart ↦ get_or-set_other (map value_of slots) i q (Some value) None apart ∙ sym (get-insert_other _ i value q apart ∙ get-live slots q)
      ]

  -- a slot is emptied
  pub live-clear : (slots : List (Slot T)) (i next : ℕ) → i < length slots → live_from 0 (set slots i (Empty next)) ≡ fin_map.remove (live_from 0 slots) i
  live-clear slots i next within = same_values _ _ (λ q. get-live _ q ∙ ap (λ xs. get_or xs q None) (map-set value_of slots i (Empty next)) ∙ at q)
    where
      at : (q : ℕ) → get_or (set (map value_of slots) i None) q None ≡ fin_map.get (fin_map.remove (live_from 0 slots) i) q
      at q = elim (cases_eq q i) [
        | inl same ↦ rw same (get_or-set_same (map value_of slots) i None None (omega (arith, length-map slots value_of)) ∙ sym (get-remove_same _ i))
        | inr apart ↦ get_or-set_other (map value_of slots) i q None None apart ∙ sym (get-remove_other _ i q apart ∙ get-live slots q)
      ]

  -- what the map has, some slot holds
  pub live_slot : (slots : List (Slot T)) (i : ℕ) → IsSome (fin_map.get (live_from 0 slots) i) → (value : T) × (slice_get slots i ≡ Some (Live value))
  live_slot slots i live = live_at slots i (rw get-live at live)

  -- what the map has under a number whose slot is known
  pub get-live_slot : (slots : List (Slot T)) (i : ℕ) (slot : Slot T) → slice_get slots i ≡ Some slot → fin_map.get (live_from 0 slots) i ≡ value_of slot
  get-live_slot slots i slot found = get-live slots i ∙ value_at_slot slots i slot found
