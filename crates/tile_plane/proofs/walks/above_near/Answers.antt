use Rattle.tile_plane.proofs.Common.{◌≡◌, pos, ◌-ℤ◌, w64, to_z, of_z, ap, arith, ints, to_z-of_z, Tile, tile_at}
use Rattle.tile_plane.proofs.BesideLaws.{next_above}
use Rattle.tile_plane.proofs.walks.above_near.Goals as goal

pub returns-then-x-tile : goal.returns-then-x-tile
returns-then-x-tile c =
    let left = ap (λ (t : Tile). t.area.xlo) c.get-tile.ensures in
    let right = ap (λ (t : Tile). t.area.xhi) c.get-tile.ensures in
    let x = to_z w64 (of_z w64 c.args.x) in
    let same : x ≡ c.args.x = to_z-of_z w64 c.args.x c.ranges.x in
    let within = c.requires.partition.within c.args.id c.requires.taken in
    record { x = x; owns = c.above_at.ensures (omega (arith, ints)) }

pub returns : goal.returns
returns c =
    record {
      x = (tile_at c.args.store.now c.args.id).area.xhi -ℤ pos 1;
      owns = rw c.get-tile.ensures (next_above c.args.store.now c.args.id c.requires.partition c.requires.stitches c.requires.taken c.requires.inside);
    }
