-- Marks of members and regions: which of them are of one class.
use Rattle.std.specs.Prelude.{◌≡◌, ◌+◌, ℕ, List, length, map, slice_index}
use Rattle.partition.specs.Divides.{Divides, IsPair}
use Rattle.group_meetings.specs.LayoutModel.declared.region_tiles.RegionTile.{RegionTile}
use Rattle.group_meetings.specs.LayoutModel.RegionTiles.{regions_of}

-- Where so many members have the first marks and the regions the marks behind: the position of the mark of the region of the tile at an
-- index.
abbrev pub region_position : ℕ → List RegionTile → ℕ → ℕ
region_position members tiles index = members + slice_index (regions_of tiles) index

-- The mark of the region of the tile at an index.
abbrev pub mark_at : ℕ → List RegionTile → List ℕ → ℕ → ℕ
mark_at members tiles marks index = slice_index marks (region_position members tiles index)

-- The marks are of so many members and then of so many regions. Two have one mark exactly where pairs of a member and of the region of a
-- tile join them, each pair being given by a member's number and a tile's index.
pub record AreMemberMarks (members : ℕ) (tiles : List RegionTile) (count : ℕ) (pairs : List (ℕ × ℕ)) (marks : List ℕ) : Type 0 where
  pub long : length marks ≡ members + count
  pub divides : Divides marks (IsPair (map (λ pair. (pair.0, region_position members tiles pair.1)) pairs))
