use Rattle.fet_regions.proofs.Common.{◌≡◌, map, filter, range_with_len, tile_at, corner_at, channel_in}
use Rattle.fet_regions.proofs.lowest.sorted_corners.Given as goal

abbrev pub invariant-loop-place : goal.invariant-loop-place
invariant-loop-place l =
    l.corners.items ≡ filter (λ corner. channel_in l.roles (tile_at l.tiles corner.tile).kind.0) (map (corner_at l.tiles) (range_with_len 0 l.place))
