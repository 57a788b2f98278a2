-- The transistors that are found, and what each says.
use Rattle.std.specs.Prelude.{◌≡◌, ◌<◌, ℕ, ℤ, pos, Bool, List, Option, length, slice_index, slice_index_or}
use Rattle.geo_core.specs.Areas.{corner_of}
use Rattle.rect_contacts.specs.declared.contacts.Contact.{Contact}
use Rattle.tech_model.specs.declared.raw.RawTech.{RawTech}
use Rattle.tech_model.specs.Types.{plane_of}
use Rattle.layout_model.specs.Transistors.{Transistor}
use Rattle.layout_model.specs.declared.region_tiles.RegionTile.{RegionTile}
use Rattle.flood_nodes.specs.TileShares.{tile_at}
use Rattle.fet_regions.specs.Lengths.{AreTerminals, parts_of, summed}
use Rattle.fet_regions.specs.steps.Lowest.{AreLowest}
use Rattle.fet_regions.specs.steps.Sizes.{AreSizes}
use Rattle.fet_regions.specs.declared.transistors.Fet.{Fet}
use Rattle.fet_regions.specs.declared.sizes.Sizes.{Sizes}

-- the transistor that is found, whose nodes are named by their regions. Its channel is on the plane of its type
abbrev pub transistor_of : RawTech → Fet → Transistor ℕ
transistor_of raw fet = record {
  kind = fet.kind.0;
  least = record { plane = plane_of raw fet.kind.0; square = fet.point };
  area = fet.area;
  perimeter = fet.perimeter;
  gate = fet.gate;
  terminals = fet.terminals;
}

-- What is found has the type, the corner and the region of this tile, and the sizes and lengths of its label.
pub record IsFoundAt (tiles : List RegionTile) (labels : List ℕ) (sizes : Sizes) (lengths : ℕ × ℕ → Option ℤ) (tile : ℕ) (fet : Fet) : Type 0 where
  pub kind : fet.kind ≡ (tile_at tiles tile).kind
  pub point : fet.point ≡ corner_of (tile_at tiles tile).area
  pub area : fet.area ≡ slice_index_or sizes.areas.items (slice_index labels tile) (pos 0)
  pub perimeter : fet.perimeter ≡ slice_index_or sizes.perimeters.items (slice_index labels tile) (pos 0)
  pub gate : fet.gate ≡ (tile_at tiles tile).region
  pub terminals : AreTerminals lengths (slice_index labels tile) fet.terminals

-- Something is found at each of the tiles, in their order.
pub record AreFoundAt (tiles : List RegionTile) (labels : List ℕ) (sizes : Sizes) (lengths : ℕ × ℕ → Option ℤ) (lowest : List ℕ)
    (found : List Fet) : Type 0 where
  pub so_many : length found ≡ length lowest
  pub each : (k : ℕ) (fet : Fet) → k < length lowest → IsFoundAt tiles labels sizes lengths (slice_index lowest k) (slice_index_or found k fet)

-- At the lowest tile of each channel stands what its label's sizes and lengths say.
pub record AreFets (is_channel : ℕ → Bool) (is_terminal : ℕ → ℕ → Bool) (tiles : List RegionTile) (contacts : List Contact) (labels : List ℕ) (count : ℕ)
    (found : List Fet) : Type 0 where
  pub sizes : Sizes
  pub lengths : ℕ × ℕ → Option ℤ
  pub lowest : List ℕ
  pub are_sizes : AreSizes tiles contacts labels count sizes
  pub are_lengths : (key : ℕ × ℕ) → lengths key ≡ summed (parts_of is_terminal tiles labels contacts) key
  pub are_lowest : AreLowest is_channel tiles labels lowest
  pub each : AreFoundAt tiles labels sizes lengths lowest found
