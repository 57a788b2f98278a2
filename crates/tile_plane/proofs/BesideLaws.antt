-- The tile that a stitch leads to, where the tile does not end at the edge of the range.
use Rattle.tile_plane.proofs.Common.{◌≡◌, ℕ, ◌<ℤ◌, subst, arith, ints, plane_range, Tile, Tiles, tile_at, IsTaken, Owns, IsPartition, HasStitches}
use Rattle.tile_plane.proofs.Common.{square_above, square_right, square_below, square_left, Side, Above, Right, Below, Left, stitch_of, square_of}
use Rattle.tile_plane.proofs.Common.{GoesOn}
use Rattle.tile_plane.proofs.TileLaws.{owner_taken}

module _ (tiles : Tiles) (id : ℕ) (partition : IsPartition tiles) (stitches : HasStitches tiles) (taken : IsTaken tiles id) where
  pub next_right : (tile_at tiles id).area.xhi <ℤ plane_range.xhi → Owns tiles (tile_at tiles id).right (square_right (tile_at tiles id))
  next_right inside = stitches.right id taken (let within = partition.within id taken in let proper = taken.proper in omega (arith, ints))

  pub next_left : plane_range.xlo <ℤ (tile_at tiles id).area.xlo → Owns tiles (tile_at tiles id).left (square_left (tile_at tiles id))
  next_left inside = stitches.left id taken (let within = partition.within id taken in let proper = taken.proper in omega (arith, ints))

  pub next_above : (tile_at tiles id).area.yhi <ℤ plane_range.yhi → Owns tiles (tile_at tiles id).above (square_above (tile_at tiles id))
  next_above inside = stitches.above id taken (let within = partition.within id taken in let proper = taken.proper in omega (arith, ints))

  pub next_below : plane_range.ylo <ℤ (tile_at tiles id).area.ylo → Owns tiles (tile_at tiles id).below (square_below (tile_at tiles id))
  next_below inside = stitches.below id taken (let within = partition.within id taken in let proper = taken.proper in omega (arith, ints))

  pub next_beside : (side : Side) → GoesOn side (tile_at tiles id).area → Owns tiles (stitch_of side (tile_at tiles id)) (square_of side (tile_at tiles id))
  next_beside Above inside = next_above inside
  next_beside Right inside = next_right inside
  next_beside Below inside = next_below inside
  next_beside Left inside = next_left inside

  -- of the tile as it was read
  pub stitch_taken : (side : Side) (tile : Tile) → tile ≡ tile_at tiles id → GoesOn side tile.area → IsTaken tiles (stitch_of side tile)
  stitch_taken side tile is inside =
      rw is (owner_taken _ _ _ (next_beside side (subst (λ (t : Tile). GoesOn side t.area) is inside)))
