-- Places side by side, each empty or with an item.
use Rattle.std.specs.Prelude.{◌≡◌, ℕ, zero, suc, get_or, List, [], ◌∷◌, replicate, Option, Some, None}

module _ {X : Type 0} where
  -- there is an item in the place of this index
  abbrev pub HasItem : List (Option X) → ℕ → Type 0
  HasItem held index = (item : X) × (get_or held index None ≡ Some item)

  -- the items that the places hold, in order
  abbrev pub items_in : List (Option X) → List X
  items_in [] = []
  items_in (None ∷ held) = items_in held
  items_in (Some item ∷ held) = item ∷ items_in held

  -- as many places, of which the first hold the items and the others are empty
  unfoldable pub begun_with : List X → ℕ → List (Option X)
  begun_with [] count = replicate count None
  begun_with (item ∷ items) zero = []
  begun_with (item ∷ items) (suc count) = Some item ∷ begun_with items count
