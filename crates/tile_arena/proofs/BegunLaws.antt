-- Places of which the first hold items, as a list of items.
use Rattle.tile_arena.proofs.Common.{◌≡◌, ℕ, zero, suc, ◌<◌, ◌≤◌, List, [], ◌∷◌, ◌++◌, length, get_or, set, replicate, Some, slice_get, refl, ap}
use Rattle.tile_arena.proofs.Common.{arith, length-replicate}
use Rattle.std.proofs.Common.{None}
use Rattle.tile_arena.specs.Places.{items_in, begun_with}

module _ {X : Type 0} where
  pub length-begun_with : (items : List X) (count : ℕ) → length items ≤ count → length (begun_with items count) ≡ count
  unfolding begun_with
  length-begun_with [] count fits = length-replicate count None
  length-begun_with (item ∷ items) zero fits = absurd (omega arith)
  length-begun_with (item ∷ items) (suc count) fits = omega (arith, length-begun_with items count (omega arith))

  all_empty : (count i : ℕ) → let none : List X = [] in get_or (replicate count None) i None ≡ slice_get none i
  all_empty zero i = refl
  all_empty (suc count) zero = refl
  all_empty (suc count) (suc i) = all_empty count i

  -- a place holds the item of its index, and nothing past the items
  pub get_or-begun_with : (items : List X) (count i : ℕ) → length items ≤ count → get_or (begun_with items count) i None ≡ slice_get items i
  unfolding begun_with
  get_or-begun_with [] count i fits = all_empty count i
  get_or-begun_with (item ∷ items) zero i fits = absurd (omega arith)
  get_or-begun_with (item ∷ items) (suc count) zero fits = refl
  get_or-begun_with (item ∷ items) (suc count) (suc i) fits = get_or-begun_with items count i (omega arith)

  -- an item in the first empty place
  pub begun_with-push : (items : List X) (count : ℕ) (x : X) → length items < count
      → set (begun_with items count) (length items) (Some x) ≡ begun_with (items ++ x ∷ []) count
  unfolding begun_with
  begun_with-push [] zero x room = absurd (omega arith)
  begun_with-push [] (suc count) x room = refl
  begun_with-push (item ∷ items) zero x room = absurd (omega arith)
  begun_with-push (item ∷ items) (suc count) x room = ap (λ held. Some item ∷ held) (begun_with-push items count x (omega arith))

  -- an item in the place of another
  pub begun_with-set : (items : List X) (count i : ℕ) (x : X) → i < length items → length items ≤ count
      → set (begun_with items count) i (Some x) ≡ begun_with (set items i x) count
  unfolding begun_with
  begun_with-set [] count i x within fits = absurd (omega arith)
  begun_with-set (item ∷ items) zero i x within fits = absurd (omega arith)
  begun_with-set (item ∷ items) (suc count) zero x within fits = refl
  begun_with-set (item ∷ items) (suc count) (suc i) x within fits = ap (λ held. Some item ∷ held) (begun_with-set items count i x (omega arith) (omega arith))

  no_items : (count : ℕ) → let none : List X = [] in items_in (replicate count None) ≡ none
  no_items zero = refl
  no_items (suc count) = no_items count

  -- the items of such places are these
  pub items_in-begun_with : (items : List X) (count : ℕ) → length items ≤ count → items_in (begun_with items count) ≡ items
  unfolding begun_with
  items_in-begun_with [] count fits = no_items count
  items_in-begun_with (item ∷ items) zero fits = absurd (omega arith)
  items_in-begun_with (item ∷ items) (suc count) fits = ap (λ rest. item ∷ rest) (items_in-begun_with items count (omega arith))

  pub begun_with-nil : (count : ℕ) → replicate count None ≡ begun_with {X = X} [] count
  unfolding begun_with
  begun_with-nil count = refl
