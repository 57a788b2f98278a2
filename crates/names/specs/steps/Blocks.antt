-- Blocks of tiles that follow each other in a list, each with a rectangle that goes round them.
use Rattle.std.specs.Prelude.{◌≡◌, ◌==◌, ◌&&◌, ◌<◌, ◌≤◌, ℕ, Bool, true, List, length, slice_index_or, Option, Some, None}
use Rattle.geo_core.specs.Areas.{LiesWithin}
use Rattle.tech_model.specs.declared.raw.Label.{Label}
use Rattle.tech_model.specs.declared.raw.RawTech.{RawTech}
use Rattle.layout_model.specs.Places.{IsNoLater}
use Rattle.layout_model.specs.declared.region_tiles.RegionTile.{RegionTile}
use Rattle.flood_nodes.specs.TileShares.{tile_at}
use Rattle.names.specs.declared.attaching.Attachment.{Attachment}
use Rattle.names.specs.declared.blocks.Block.{Block}
use Rattle.names.specs.steps.TakenLabels.{takes, attachment_on, place_of}

-- The tile lies within the block's rectangle, and is of its plane and type where the block has one.
pub record IsWithinBlock (block : Block) (tile : RegionTile) : Type 0 where
  pub inside : LiesWithin tile.area block.area
  pub alike : block.uniform ≡ true → (tile.plane ≡ block.plane) × (tile.kind.0 ≡ block.kind.0)

-- the block is of one plane and type, and the tile is of them
abbrev pub is_like : Block → RegionTile → Bool
is_like block tile = block.uniform && tile.plane == block.plane && tile.kind.0 == block.kind.0

-- The block was made to have one more tile.
pub record AddsTile (block : Block) (tile : RegionTile) (new : Block) : Type 0 where
  pub ends : new.end ≡ block.end
  pub added : IsWithinBlock new tile
  pub kept : (other : RegionTile) → IsWithinBlock block other → IsWithinBlock new other

-- The block has the tiles of the list from this index on and before its end.
pub record IsBlockFrom (tiles : List RegionTile) (start : ℕ) (block : Block) : Type 0 where
  pub some : start < block.end
  pub ends : block.end ≤ length tiles
  pub within : (k : ℕ) → start ≤ k → k < block.end → IsWithinBlock block (tile_at tiles k)

-- There is a block from each index on.
pub record AreBlocks (tiles : List RegionTile) (blocks : List Block) : Type 0 where
  pub one_each : length blocks ≡ length tiles
  pub each : (start : ℕ) (block : Block) → start < length tiles → IsBlockFrom tiles start (slice_index_or blocks start block)

-- What was found is no later than the attachment.
abbrev pub IsBeaten : Option Attachment → Attachment → Type 0
IsBeaten None attachment = ⊥
IsBeaten (Some found) attachment = IsNoLater (place_of found) (place_of attachment)

-- Where the label takes a tile of the block, what was found is no later.
abbrev pub IsBlockBeaten : RawTech → Label → Block → Option Attachment → Type 0
IsBlockBeaten raw label block found =
    (tile : RegionTile) → IsWithinBlock block tile → takes raw label tile ≡ true → IsBeaten found (attachment_on label tile)
