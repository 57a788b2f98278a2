use Rattle.tile_plane.proofs.Common.{pos, ◌+ℤ◌, ◌≡◌, w64, to_z, of_z, ap, arith, rules, ints, to_z-of_z, Tile, tile_at}
use Rattle.tile_plane.proofs.TileLaws.{owner_taken}
use Rattle.tile_plane.proofs.WalkLaws.{extent_falls, extent_falls_down}
use Rattle.tile_plane.proofs.walks.in_row.Goals as goal

pub upward-preserved : goal.upward-preserved
upward-preserved c = owner_taken _ _ _ c.above_near-id.ensures.owns

pub upward-smaller : goal.upward-smaller
upward-smaller c =
    let edge = ap (λ (t : Tile). t.area.yhi) c.get.ensures in
    let y = to_z w64 (of_z w64 c.args.square.y) in
    let same : y ≡ c.args.square.y = to_z-of_z w64 c.args.square.y (search rules) in
    extent_falls (tile_at c.args.store.now c.upward.id).area.yhi (tile_at c.args.store.now c.above_near-id.result).area.yhi (c.args.square.y +ℤ pos 1)
    (omega (arith, ints)) (omega (arith, ints))

pub below_near-id-requires-clause-inside : goal.below_near-id-requires-clause-inside
below_near-id-requires-clause-inside c =
    let edge = ap (λ (t : Tile). t.area.ylo) c.get-in-downward.ensures in
    let y = to_z w64 (of_z w64 c.args.square.y) in
    let same : y ≡ c.args.square.y = to_z-of_z w64 c.args.square.y (search rules) in
    omega (arith, ints)

pub downward-preserved : goal.downward-preserved
downward-preserved c =
    let edge = ap (λ (t : Tile). t.area.ylo) c.get-in-downward.ensures in
    let y = to_z w64 (of_z w64 c.args.square.y) in
    let same : y ≡ c.args.square.y = to_z-of_z w64 c.args.square.y (search rules) in
    record { taken = owner_taken _ _ _ c.below_near-id.ensures.owns; over = omega (arith, ints) }

pub downward-smaller : goal.downward-smaller
downward-smaller c =
    let edge = ap (λ (t : Tile). t.area.ylo) c.get-in-downward.ensures in
    let y = to_z w64 (of_z w64 c.args.square.y) in
    let same : y ≡ c.args.square.y = to_z-of_z w64 c.args.square.y (search rules) in
    extent_falls_down c.args.square.y (tile_at c.args.store.now c.below_near-id.result).area.ylo (tile_at c.args.store.now c.downward.id).area.ylo
    (omega (arith, ints)) (omega (arith, ints))
