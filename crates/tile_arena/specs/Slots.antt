-- What the places of an arena hold, and the list of those with no value.
use Rattle.std.specs.Prelude.{◌≡◌, ℕ, zero, suc, ◌+◌, ◌%◌, ◌≤◌, List, [], ◌∷◌, map, length, Option, Some, None, is_some, count_by, slice_get}
use Rattle.std.specs.Ordering.{nat_cmp}
use Rattle.std.specs.FinMap as fin_map
use Rattle.tile_arena.specs.declared.slots.Slot.{Slot}
use Rattle.tile_arena.specs.declared.slots.Slot.TheVariants.{Live, Empty}
use Rattle.tile_arena.specs.declared.limits.TheConstants.{BLOCK_SIZE, MOST_VALUES}

module _ {T : Type 0} where
  -- the value of a slot, if it has one
  abbrev pub value_of : Slot T → Option T
  value_of (Live value) = Some value
  value_of (Empty _) = None

  -- the values of the slots, each under the number of its slot, where the first has this number
  abbrev pub live_from : ℕ → List (Slot T) → fin_map.FinMap nat_cmp T
  live_from number [] = fin_map.empty
  live_from number (Live value ∷ slots) = fin_map.insert (live_from (number + 1) slots) number value
  live_from number (Empty _ ∷ slots) = live_from (number + 1) slots

  -- from this number on so many empty slots each name the next, and the last names the end of the slots
  abbrev pub IsEmptyChain : List (Slot T) → ℕ → ℕ → Type 0
  IsEmptyChain slots zero number = number ≡ length slots
  IsEmptyChain slots (suc count) number = (next : ℕ) × (slice_get slots number ≡ Some (Empty next)) × IsEmptyChain slots count next

  -- `live` counts the values, and the chain from `next` has every empty slot
  pub record IsSound (slots : List (Slot T)) (capacity live next : ℕ) : Type 0 where
    pub counted : live ≡ count_by is_some (map value_of slots)
    pub empty : ℕ
    pub total : live + empty ≡ length slots
    pub chained : IsEmptyChain slots empty next
    pub roomy : length slots ≤ capacity
    pub whole : capacity % BLOCK_SIZE ≡ 0
    pub bounded : capacity ≤ MOST_VALUES
