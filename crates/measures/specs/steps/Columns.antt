-- The measures of regions, by class.
use Rattle.std.specs.Prelude.{◌≡◌, ◌<◌, ℕ, ℤ, pos, Bool, List, ◌++◌, length, map, slice_index_or}
use Rattle.flood_nodes.specs.RectContacts.declared.contacts.Contact.{Contact}
use Rattle.tech_model.specs.declared.raw.ClassRec.{ClassRec}
use Rattle.layout_model.specs.Technologies.{class_of}
use Rattle.layout_model.specs.declared.region_tiles.RegionTile.{RegionTile}
use Rattle.key_sums.specs.Amounts.{sum_of}
use Rattle.measures.specs.declared.columns.Column.{Column}
use Rattle.measures.specs.steps.Sizes.{area_amounts, perimeter_amounts, shared_amounts}

-- The column has for each region the sums of what its tiles and their contacts count in the class.
pub record IsColumn (contains : ℕ → Bool) (tiles : List RegionTile) (contacts : List Contact) (count : ℕ) (column : Column) : Type 0 where
  pub areas_long : length column.areas.items ≡ count
  pub perimeters_long : length column.perimeters.items ≡ count
  pub area : (region : ℕ) → region < count → slice_index_or column.areas.items region (pos 0) ≡ sum_of region (area_amounts contains tiles)
  pub perimeter : (region : ℕ) → region < count
      → slice_index_or column.perimeters.items region (pos 0) ≡ sum_of region (perimeter_amounts contains tiles ++ shared_amounts contains tiles contacts)

-- the area and the perimeter of a region in each class
abbrev pub pairs_at : ℕ → List Column → List (ℤ × ℤ)
pairs_at region columns = map (λ column. (slice_index_or column.areas.items region (pos 0), slice_index_or column.perimeters.items region (pos 0))) columns

-- There is a column for each class.
pub record AreColumns (classes : List ClassRec) (tiles : List RegionTile) (contacts : List Contact) (count : ℕ) (columns : List Column) : Type 0 where
  pub so_many : length columns ≡ length classes
  pub each : (k : ℕ) (class : ClassRec) (column : Column) → k < length classes
      → IsColumn (class_of (slice_index_or classes k class)).contains tiles contacts count (slice_index_or columns k column)
