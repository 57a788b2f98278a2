-- A block: places of which the first hold the items, in order.
use Rattle.std.specs.Prelude.{◌≡◌, ◌≤◌, List, length}
use Rattle.tile_arena.specs.declared.blocks.Block.TheInside.{Inside}
use Rattle.tile_arena.specs.declared.limits.TheConstants.{BLOCK_SIZE}
use Rattle.tile_arena.specs.Places.{items_in, begun_with}

module _ {X : Type 0} where
  -- the items of the block
  abbrev pub block_items : Inside X → List X
  block_items block = items_in block.places.held

  -- The owner of the places and the title are those of this block, and the places are filled from the first on.
  pub record IsBlock (block : Inside X) : Type 0 where
    pub here : block.places.at ≡ block.start.ptr
    pub titled : block.title.at ≡ block.start.ptr
    pub whole : block.title.count ≡ BLOCK_SIZE
    pub freed_by : block.title.alloc ≡ block.alloc
    pub filled : block.places.held ≡ begun_with (block_items block) BLOCK_SIZE
    pub counted : block.len ≡ length (block_items block)
    pub fits : block.len ≤ BLOCK_SIZE
