-- What tiles and their contacts count for the area and the perimeter of the tiles of one label.
use Rattle.std.specs.Prelude.{◌≡◌, ◌<◌, ℕ, ℤ, pos, ◌-ℤ◌, List, ◌∷◌, [], ◌++◌, if◌then◌else◌, map, length, slice_index, slice_index_or}
use Rattle.std.specs.List.{flat_map}
use Rattle.rect_contacts.specs.declared.contacts.Contact.{Contact}
use Rattle.rect_contacts.specs.Squares.{area_of, perimeter_of}
use Rattle.layout_model.specs.declared.region_tiles.RegionTile.{RegionTile}
use Rattle.key_sums.specs.declared.Amount.{Amount}
use Rattle.key_sums.specs.Amounts.{sum_of}
use Rattle.flood_nodes.specs.TileShares.{tile_at, indices_of}
use Rattle.fet_regions.specs.steps.Channels.{are_alike}
use Rattle.fet_regions.specs.declared.sizes.Sizes.{Sizes}

-- for each tile its area
abbrev pub area_amount : List RegionTile → List ℕ → ℕ → Amount
area_amount tiles labels i = record { key = slice_index labels i; value = area_of (tile_at tiles i).area }

-- and its perimeter
abbrev pub perimeter_amount : List RegionTile → List ℕ → ℕ → Amount
perimeter_amount tiles labels i = record { key = slice_index labels i; value = perimeter_of (tile_at tiles i).area }

abbrev pub area_amounts : List RegionTile → List ℕ → List Amount
area_amounts tiles labels = map (area_amount tiles labels) (indices_of tiles)

abbrev pub perimeter_amounts : List RegionTile → List ℕ → List Amount
perimeter_amounts tiles labels = map (perimeter_amount tiles labels) (indices_of tiles)

-- the length of an edge, taken off the sums of two labels
abbrev pub taken_off : ℕ → ℕ → ℤ → List Amount
taken_off first second edge = record { key = first; value = pos 0 -ℤ edge } ∷ record { key = second; value = pos 0 -ℤ edge } ∷ []

-- what a contact takes off the perimeters, if its tiles are of one type
abbrev pub shared_at : List RegionTile → List ℕ → Contact → List Amount
shared_at tiles labels contact =
    if are_alike tiles contact then taken_off (slice_index labels contact.first) (slice_index labels contact.second) contact.length else []

-- what the contacts take off them
abbrev pub shared_amounts : List RegionTile → List ℕ → List Contact → List Amount
shared_amounts tiles labels contacts = flat_map (shared_at tiles labels) contacts

-- The sums are those of each label.
pub record AreSizes (tiles : List RegionTile) (contacts : List Contact) (labels : List ℕ) (count : ℕ) (sizes : Sizes) : Type 0 where
  pub areas_long : length sizes.areas.items ≡ count
  pub perimeters_long : length sizes.perimeters.items ≡ count
  pub area : (label : ℕ) → label < count → slice_index_or sizes.areas.items label (pos 0) ≡ sum_of label (area_amounts tiles labels)
  pub perimeter : (label : ℕ) → label < count
      → slice_index_or sizes.perimeters.items label (pos 0) ≡ sum_of label (perimeter_amounts tiles labels ++ shared_amounts tiles labels contacts)
