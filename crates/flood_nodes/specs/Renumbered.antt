-- Tiles that got the numbers of their regions.
use Rattle.std.specs.Prelude.{◌≡◌, ℕ, ◌<◌, List, length, slice_index}
use Rattle.layout_model.specs.declared.region_tiles.RegionTile.{RegionTile}
use Rattle.flood_nodes.specs.TileShares.{tile_at}

-- the tile with this number
abbrev pub with_region : RegionTile → ℕ → RegionTile
with_region tile region = record { plane = tile.plane; area = tile.area; kind = tile.kind; region = region }

-- These are the tiles, each with its number.
pub record AreRenumbered (tiles : List RegionTile) (labels : List ℕ) (numbered : List RegionTile) : Type 0 where
  pub so_many : length numbered ≡ length tiles
  pub each : (k : ℕ) → k < length tiles → tile_at numbered k ≡ with_region (tile_at tiles k) (slice_index labels k)
