-- The first tiles of classes of regions, in the order of places.
use Rattle.std.specs.Prelude.{◌≡◌, ◌≢◌, ◌<◌, ℕ, Bool, false, List, length, AllPairs, slice_index, slice_index_or}
use Rattle.geo_core.specs.FiniteSets.Lists.{In}
use Rattle.geo_core.specs.Areas.{corner_of}
use Rattle.layout_model.specs.Places.{Place, IsNoLater}
use Rattle.layout_model.specs.declared.region_tiles.RegionTile.{RegionTile}

-- the least place of a tile
abbrev pub corner_place : RegionTile → Place
corner_place tile = record { plane = tile.plane; square = corner_of tile.area }

-- the class of a tile's region
abbrev pub class_of : List ℕ → RegionTile → ℕ
class_of classes tile = slice_index classes tile.region

-- No other tile of the class has an earlier place.
pub record IsFirstTile (classes : List ℕ) (Among : RegionTile → Type 0) (first : RegionTile) : Type 0 where
  pub among : Among first
  pub least : (tile : RegionTile) → Among tile → class_of classes tile ≡ class_of classes first → IsNoLater (corner_place first) (corner_place tile)

-- These are the first tiles of the classes of the tiles with a fact, in the order of places.
pub record AreFirstTiles (classes : List ℕ) (Among : RegionTile → Type 0) (firsts : List RegionTile) : Type 0 where
  pub sound : (first : RegionTile) → In first firsts → IsFirstTile classes Among first
  pub whole : (tile : RegionTile) → Among tile → (first : RegionTile) × In first firsts × (class_of classes first ≡ class_of classes tile)
  pub in_order : AllPairs (λ a b. IsNoLater (corner_place a) (corner_place b) × (class_of classes a ≢ class_of classes b)) firsts

-- There is a mark for each class, and none is set.
pub record AreUnmarked (count : ℕ) (marks : List Bool) : Type 0 where
  pub one_each : length marks ≡ count
  pub unset : (class : ℕ) (mark : Bool) → class < count → slice_index_or marks class mark ≡ false
