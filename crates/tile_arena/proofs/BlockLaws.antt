-- What a block is after each change of one of its places.
use Rattle.tile_arena.proofs.Common.{◌≡◌, ℕ, zero, suc, ◌+◌, ◌<◌, ◌≤◌, List, [], ◌∷◌, ◌++◌, length, get_or, set, Some, slice_get, refl, sym, ap, ◌∙◌}
use Rattle.tile_arena.proofs.Common.{arith, length-set, take, length_push, slice_get_within, get_or_from_slice_get, BLOCK_SIZE, HasItem}
use Rattle.std.proofs.Common.{None}
use Rattle.std.proofs.Common.{take-suc, add-one}
use Rattle.tile_arena.specs.declared.blocks.Block.TheInside.{Inside}
use Rattle.tile_arena.specs.declared.places.Places.{Places}
use Rattle.tile_arena.specs.Places.{items_in, begun_with}
use Rattle.tile_arena.specs.steps.PlaceLending.{with_held}
use Rattle.tile_arena.specs.Blocks.{block_items, IsBlock}
use Rattle.tile_arena.proofs.BegunLaws.{length-begun_with, get_or-begun_with, begun_with-push, begun_with-set, items_in-begun_with}

module _ {X : Type 0} where
  -- below the length there is an item
  some_at : (xs : List X) (i : ℕ) → i < length xs → (x : X) × (slice_get xs i ≡ Some x)
  some_at [] i within = absurd (omega arith)
  some_at (x ∷ xs) zero within = (x, refl)
  some_at (x ∷ xs) (suc i) within = some_at xs i (omega arith)

  none_at : (xs : List X) → slice_get xs (length xs) ≡ None
  none_at [] = refl
  none_at (x ∷ xs) = none_at xs

  -- the items up to one of them, and that one
  pub take_next : (xs : List X) (i : ℕ) (x : X) → slice_get xs i ≡ Some x → take i xs ++ x ∷ [] ≡ take (i + 1) xs
  take_next xs i x found =
      let read = get_or_from_slice_get xs i x x found in
      rw add-one (ap (λ y. take i xs ++ y ∷ []) (sym read) ∙ sym (take-suc xs i x (slice_get_within xs i x found)))

  -- places that are filled from the first on are a block of these items
  pub block_of : (block : Inside X) (items : List X) → block.places.at ≡ block.start.ptr → block.title.at ≡ block.start.ptr → block.title.count ≡ BLOCK_SIZE
      → block.title.alloc ≡ block.alloc → block.places.held ≡ begun_with items BLOCK_SIZE → block.len ≡ length items → length items ≤ BLOCK_SIZE
      → IsBlock block × (block_items block ≡ items)
  block_of block items here titled whole freed_by filled counted fits =
      let same : block_items block ≡ items = ap items_in filled ∙ items_in-begun_with items BLOCK_SIZE fits in
      let laid : block.places.held ≡ begun_with (block_items block) BLOCK_SIZE = filled ∙ ap (λ l. begun_with l BLOCK_SIZE) (sym same) in
      let long : block.len ≡ length (block_items block) = counted ∙ ap length (sym same) in
      (record { here = here; titled = titled; whole = whole; freed_by = freed_by; filled = laid; counted = long; fits = omega (arith, counted, fits) }, same)

  module _ (block : Inside X) (is : IsBlock block) where
    -- it has no more items than places
    pub within_block : length (block_items block) ≤ BLOCK_SIZE
    within_block = omega (arith, is.counted, is.fits)

    pub length-held : length block.places.held ≡ BLOCK_SIZE
    length-held = ap length is.filled ∙ length-begun_with (block_items block) BLOCK_SIZE within_block

    -- the place of an index holds the item of that index
    pub held_is_item : (at : ℕ) → get_or block.places.held at None ≡ slice_get (block_items block) at
    held_is_item at = ap (λ held. get_or held at None) is.filled ∙ get_or-begun_with (block_items block) BLOCK_SIZE at within_block

    pub has_item : (at : ℕ) → at < length (block_items block) → HasItem block.places.held at
    has_item at within = let found = some_at (block_items block) at within in (found.0, held_is_item at ∙ found.1)

    -- the place behind the items is empty
    pub next_is_empty : get_or block.places.held block.len None ≡ None
    next_is_empty = ap (λ n. get_or block.places.held n None) is.counted ∙ (held_is_item (length (block_items block)) ∙ none_at (block_items block))

    -- an item in the place behind the items
    pub item_pushed : (item : X) (places : Places X) → length (block_items block) < BLOCK_SIZE → places.at ≡ block.places.at
        → places.held ≡ set block.places.held block.len (Some item)
        → let pushed = record block { len = block.len + 1; places = places } in IsBlock pushed × (block_items pushed ≡ block_items block ++ item ∷ [])
    item_pushed item places room here held =
        let items = block_items block in
        let longer = length_push items item in
        let laid : places.held ≡ begun_with (items ++ item ∷ []) BLOCK_SIZE =
        held ∙ (ap (λ l. set l block.len (Some item)) is.filled
        ∙ (ap (λ n. set (begun_with items BLOCK_SIZE) n (Some item)) is.counted ∙ begun_with-push items BLOCK_SIZE item room)) in
        block_of (record block { len = block.len + 1; places = places }) (items ++ item ∷ []) (here ∙ is.here) is.titled is.whole is.freed_by laid
        (omega (arith, is.counted)) (omega arith)

    -- an item in the place of another
    pub item_written : (at : ℕ) (item : X) → at < length (block_items block)
        → let written = record block { places = with_held block.places (set block.places.held at (Some item)) } in
        IsBlock written × (block_items written ≡ set (block_items block) at item)
    item_written at item within =
        let items = block_items block in
        let laid : set block.places.held at (Some item) ≡ begun_with (set items at item) BLOCK_SIZE =
        ap (λ l. set l at (Some item)) is.filled ∙ begun_with-set items BLOCK_SIZE at item within within_block in
        let long = length-set items at item in
        block_of (record block { places = with_held block.places (set block.places.held at (Some item)) })
        (set items at item) is.here is.titled is.whole is.freed_by
        laid (is.counted ∙ sym long) (omega (arith, within_block))
