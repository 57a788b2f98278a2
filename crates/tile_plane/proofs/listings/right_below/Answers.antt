use Rattle.tile_plane.proofs.Common.{◌≡◌, ℤ, pos, ◌-ℤ◌, w64, to_z, of_z, ap, subst, arith, ints, to_z-of_z, Tile, tile_at, Owns, square_at}
use Rattle.tile_plane.proofs.BesideLaws.{next_right}
use Rattle.tile_plane.proofs.listings.right_below.Goals as goal

pub returns-then-tile-y : goal.returns-then-tile-y
returns-then-tile-y c =
    let tiles = c.args.store.now in
    let id = c.args.id in
    let same : to_z w64 (of_z w64 c.args.y) ≡ c.args.y = to_z-of_z w64 c.args.y c.ranges.y in
    let edge = ap (λ (t : Tile). t.area.yhi) c.get-tile.ensures in
    let test = c.if-tile-y.true in
    let to = c.requires.to in
    let ends : (tile_at tiles id).area.yhi ≡ c.args.y = omega (arith, ints) in
    let owns : Owns tiles (tile_at tiles id).right (square_at (tile_at tiles id).area.xhi ((tile_at tiles id).area.yhi -ℤ pos 1)) =
    next_right tiles id c.requires.partition c.requires.stitches c.requires.taken c.requires.inside in
    rw c.get-tile.ensures (subst (λ (v : ℤ). Owns tiles (tile_at tiles id).right (square_at (tile_at tiles id).area.xhi (v -ℤ pos 1))) ends owns)

pub find-requires-clause-inside : goal.find-requires-clause-inside
find-requires-clause-inside c =
    let tiles = c.args.store.now in
    let id = c.args.id in
    let same : to_z w64 (of_z w64 c.args.y) ≡ c.args.y = to_z-of_z w64 c.args.y c.ranges.y in
    let edge = ap (λ (t : Tile). t.area.xhi) c.get-tile.ensures in
    let within = c.requires.partition.within id c.requires.taken in
    let proper = c.requires.taken.proper in
    let bounds = c.requires in
    omega (arith, ints)

pub returns : goal.returns
returns c =
    let tiles = c.args.store.now in
    let id = c.args.id in
    let same : to_z w64 (of_z w64 c.args.y) ≡ c.args.y = to_z-of_z w64 c.args.y c.ranges.y in
    let edge = ap (λ (t : Tile). t.area.xhi) c.get-tile.ensures in
    let within = c.requires.partition.within id c.requires.taken in
    let proper = c.requires.taken.proper in
    let bounds = c.requires in
    let covers = c.find.ensures.covers in
    omega (arith, ints)
