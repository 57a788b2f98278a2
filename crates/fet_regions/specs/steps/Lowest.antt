-- The tiles of channels by their lower left corners.
use Rattle.std.specs.Prelude.{◌≡◌, ◌≢◌, ◌<◌, ℕ, Bool, true, List, map, filter, length, slice_index, AllPairs}
use Rattle.geo_core.specs.Areas as areas
use Rattle.finite_sets.specs.Lists.{In}
use Rattle.layout_model.specs.Places.{Place, IsNoLater}
use Rattle.layout_model.specs.declared.region_tiles.RegionTile.{RegionTile}
use Rattle.flood_nodes.specs.TileShares.{tile_at, indices_of}
use Rattle.fet_regions.specs.declared.lowest.Corner.{Corner}

-- the place of the lower left corner of a tile
abbrev pub place_of : RegionTile → Place
place_of tile = record { plane = tile.plane; square = areas.corner_of tile.area }

-- the tile at this place of the list is of a channel's type
pub record IsChannelTile (is_channel : ℕ → Bool) (tiles : List RegionTile) (i : ℕ) : Type 0 where
  pub within : i < length tiles
  pub channel : is_channel (tile_at tiles i).kind.0 ≡ true

-- the corner of the tile at a place of the list
abbrev pub corner_of : RegionTile → ℕ → Corner
corner_of tile place = record { plane = tile.plane; y = tile.area.ylo; x = tile.area.xlo; tile = place }

abbrev pub corner_at : List RegionTile → ℕ → Corner
corner_at tiles place = corner_of (tile_at tiles place) place

-- the corners of the tiles of channels
abbrev pub channel_corners : (ℕ → Bool) → List RegionTile → List Corner
channel_corners is_channel tiles = filter (λ corner. is_channel (tile_at tiles corner.tile).kind.0) (map (corner_at tiles) (indices_of tiles))

-- the corner of the first tile is no later a place than that of the second
abbrev pub IsNoHigher : List RegionTile → ℕ → ℕ → Type 0
IsNoHigher tiles i j = IsNoLater (place_of (tile_at tiles i)) (place_of (tile_at tiles j))

-- The corners are those of the tiles of channels, in order.
pub record AreCorners (is_channel : ℕ → Bool) (tiles : List RegionTile) (corners : List Corner) : Type 0 where
  pub each : (i : ℕ) → IsChannelTile is_channel tiles i → In (corner_at tiles i) corners
  pub others : (corner : Corner) → In corner corners → IsChannelTile is_channel tiles corner.tile
  pub in_order : AllPairs (λ a b. IsNoHigher tiles a.tile b.tile) corners

-- These are, of the tiles of channels with each label, one that has the first corner, in the order of the corners.
pub record AreLowest (is_channel : ℕ → Bool) (tiles : List RegionTile) (labels lowest : List ℕ) : Type 0 where
  pub channels : (i : ℕ) → In i lowest → IsChannelTile is_channel tiles i
  pub least : (i j : ℕ) → In i lowest → IsChannelTile is_channel tiles j → slice_index labels j ≡ slice_index labels i → IsNoHigher tiles i j
  pub every : (j : ℕ) → IsChannelTile is_channel tiles j → (i : ℕ) × (In i lowest × (slice_index labels i ≡ slice_index labels j))
  pub labels_differ : AllPairs (λ i j. slice_index labels i ≢ slice_index labels j) lowest
  pub in_order : AllPairs (IsNoHigher tiles) lowest
