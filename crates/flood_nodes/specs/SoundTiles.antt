-- What holds of each tile of regions.
use Rattle.std.specs.Prelude.{ℕ, ◌<◌}
use Rattle.geo_core.specs.Areas.{IsNear}
use Rattle.geo_core.specs.Covering.{IsProper}
use Rattle.layout_model.specs.declared.region_tiles.RegionTile.{RegionTile}

-- The tile has a square and bounds within planes, and its region is one of so many.
pub record IsSoundTile (count : ℕ) (tile : RegionTile) : Type 0 where
  pub proper : IsProper tile.area
  pub near : IsNear tile.area
  pub numbered : tile.region < count
