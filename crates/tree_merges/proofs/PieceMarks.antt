-- The marks of pieces: each is that of the region of the piece, and one of so many.
use Rattle.tree_merges.proofs.Common.{◌≡◌, ◌+◌, ◌<◌, ℕ, List, length, map, sym, ap, subst, ◌∙◌, arith, slice_index, All, range_with_len, get_or-map}
use Rattle.tree_merges.proofs.Common.{length-map, RegionTile, regions_of, no_tile, tile_at, mark_at, region_position}
use Rattle.std.proofs.lemmas.List.FromFn.{fill_by_all, get_or-map-range_with_len, length-map-range_with_len}
use Rattle.partition.specs.Marks.{IsNumbered}
use Rattle.flood_nodes.specs.SoundTiles.{IsSoundTile}

-- the region of a tile, by its index
pub region_at : (tiles : List RegionTile) (index : ℕ) → index < length tiles → slice_index (regions_of tiles) index ≡ (tile_at tiles index).region
region_at tiles index below = get_or-map (λ (tile : RegionTile). tile.region) tiles index no_tile 0 below

-- the marks of tiles are those of their indices
pub marks_by_index : (members : ℕ) (tiles : List RegionTile) (marks : List ℕ)
    → map (λ tile. slice_index marks (members + tile.region)) tiles ≡ map (mark_at members tiles marks) (range_with_len 0 (length tiles))
marks_by_index members tiles marks =
    fill_by_all (mark_at members tiles marks) (map (λ (tile : RegionTile). slice_index marks (members + tile.region)) tiles) (length tiles) 0
    (length-map tiles (λ (tile : RegionTile). slice_index marks (members + tile.region)))
    (λ k below.
    get_or-map (λ (tile : RegionTile). slice_index marks (members + tile.region)) tiles k no_tile 0 below
    ∙ ap (λ (region : ℕ). slice_index marks (members + region)) (sym (region_at tiles k below)))

-- the region of a tile has a mark
pub region_is_marked : (members : ℕ) (tiles : List RegionTile) (count : ℕ) → All (IsSoundTile count) tiles → (index : ℕ) → index < length tiles
    → region_position members tiles index < members + count
region_is_marked members tiles count sound index below =
    let numbered : (tile_at tiles index).region < count = (sound index no_tile below).numbered in
    omega (arith, numbered, region_at tiles index below)

-- the marks of pieces are among all
pub marks_are_counted : (members : ℕ) (tiles : List RegionTile) (count : ℕ) (marks : List ℕ) (most : ℕ) → length marks ≡ members + count
    → All (IsSoundTile count) tiles → IsNumbered marks most
    → All (λ mark. mark < most) (map (mark_at members tiles marks) (range_with_len 0 (length tiles)))
marks_are_counted members tiles count marks most long sound numbered = λ k d below.
    let inside : k < length tiles = omega (arith, below, length-map-range_with_len (mark_at members tiles marks) 0 (length tiles)) in
    subst (λ (mark : ℕ). mark < most) (sym (get_or-map-range_with_len (mark_at members tiles marks) 0 (length tiles) k k d inside (omega arith)))
    (numbered.below (region_position members tiles k) 0 (omega (arith, region_is_marked members tiles count sound k inside, long)))
