use Rattle.tile_plane.proofs.Common.{ap, arith, ints, Tile, Above, Right, Below, Left}
use Rattle.tile_plane.proofs.BesideLaws.{stitch_taken}
use Rattle.tile_plane.proofs.walks.step_across.Goals as goal

pub returns-then-tile-square : goal.returns-then-tile-square
returns-then-tile-square c =
    stitch_taken c.args.store.now c.args.id c.requires.partition c.requires.stitches c.requires.taken Right _ c.get-tile.ensures (omega (arith, ints))

pub returns-then-square-tile : goal.returns-then-square-tile
returns-then-square-tile c =
    stitch_taken c.args.store.now c.args.id c.requires.partition c.requires.stitches c.requires.taken Left _ c.get-tile.ensures (omega (arith, ints))

pub returns-then-tile-square-2 : goal.returns-then-tile-square-2
returns-then-tile-square-2 c =
    stitch_taken c.args.store.now c.args.id c.requires.partition c.requires.stitches c.requires.taken Above _ c.get-tile.ensures (omega (arith, ints))

pub returns-then-square-tile-2 : goal.returns-then-square-tile-2
returns-then-square-tile-2 c =
    stitch_taken c.args.store.now c.args.id c.requires.partition c.requires.stitches c.requires.taken Below _ c.get-tile.ensures (omega (arith, ints))

pub returns : goal.returns
returns c =
    let tile = c.get-tile.ensures in
    let below = ap (λ (t : Tile). t.area.ylo) tile in
    let right_end = ap (λ (t : Tile). t.area.yhi) tile in
    let low = ap (λ (t : Tile). t.area.xlo) tile in
    let high = ap (λ (t : Tile). t.area.xhi) tile in
    omega (arith, ints)
