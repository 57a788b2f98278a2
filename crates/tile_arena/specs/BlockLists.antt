-- Lists that are kept in blocks of BLOCK_SIZE items.
use Rattle.std.specs.Prelude.{◌≡◌, ℕ, ◌-◌, List, [], ◌∷◌, ◌++◌, length, min, slice_set, refl}
use Rattle.std.specs.Coded.{Coded, code_by, coded×, coded_ℕ, coded_list}
use Rattle.tile_arena.specs.declared.limits.TheConstants.{BLOCK_SIZE}

-- the items, and how many the blocks have room for
pub record Listing (X : Type 0) : Type 0 where
  pub items : List X
  pub capacity : ℕ

-- a listing is stored as the pair of its fields
abbrev pub listing_code : {X : Type 0} → Coded X → Coded (Listing X)
listing_code {X} code =
    code_by (List X × ℕ) (coded× (coded_list code) coded_ℕ) (λ l. (l.items, l.capacity)) (λ p. record { items = p.0; capacity = p.1 }) (λ _. refl)

module _ {X : Type 0} where
  -- the items of the blocks, in order
  abbrev pub items_of : List (List X) → List X
  items_of [] = []
  items_of (block ∷ blocks) = block ++ items_of blocks

  -- so many items fill the blocks from the first on, and each block but the last of them is full
  abbrev pub AreFilled : List (List X) → ℕ → Type 0
  AreFilled [] count = count ≡ 0
  AreFilled (block ∷ blocks) count = (length block ≡ min count BLOCK_SIZE) × AreFilled blocks (count - BLOCK_SIZE)

  -- the listing after a write of one item
  abbrev pub with_item : Listing X → ℕ → X → Listing X
  with_item list at item = record list { items = slice_set list.items at item }
