use Rattle.tile_plane.proofs.Common.{◌≤ℤ◌, ◌<ℤ◌, ap, arith, ints, Tile, tile_at}
use Rattle.tile_plane.proofs.FillLaws.{fill_reach, fill_next, fill_on, fill_nearer, fill_ends}
use Rattle.tile_plane.proofs.pieces.fill_band.Goals as goal

pub take_right-requires-clause-reach : goal.take_right-requires-clause-reach
take_right-requires-clause-reach c = λ k owns. fill_reach c.args.band.now c.in_ok-id.id c.args.store.now c.row.store c.requires.proper c.requires.near
    c.requires.free c.row.invariant k owns

pub row-preserved : goal.row-preserved
row-preserved c =
    let band = c.args.band.now in
    let now = c.row.store in
    let id = c.in_ok-id.id in
    let edge = ap (λ (t : Tile). t.area.xhi) c.get.ensures in
    let test = c.row-test.true in
    let more : (tile_at now id).area.xhi <ℤ band.area.xhi = omega (arith, ints) in
    let next = fill_next band id c.args.store.now now c.requires.proper c.requires.near c.requires.free c.row.invariant more in
    let made = c.in_ok-take_right.ensures in
    fill_on band id c.args.store.now now c.requires.proper c.requires.near c.requires.free c.row.invariant next.0 more next.1 c.take_right.new.store
    made.partition made.stitches (made.laid next.0 next.1)

pub row-smaller : goal.row-smaller
row-smaller c =
    let band = c.args.band.now in
    let now = c.row.store in
    let id = c.in_ok-id.id in
    let edge = ap (λ (t : Tile). t.area.xhi) c.get.ensures in
    let test = c.row-test.true in
    let more : (tile_at now id).area.xhi <ℤ band.area.xhi = omega (arith, ints) in
    let next = fill_next band id c.args.store.now now c.requires.proper c.requires.near c.requires.free c.row.invariant more in
    let made = c.in_ok-take_right.ensures in
    fill_nearer band id c.args.store.now now c.requires.proper c.requires.near c.requires.free c.row.invariant next.0 more next.1 c.take_right.new.store
    (made.laid next.0 next.1)

pub returns-clause-laid : goal.returns-clause-laid
returns-clause-laid c =
    let band = c.args.band.now in
    let now = c.row.store in
    let id = c.in_ok-id.id in
    let edge = ap (λ (t : Tile). t.area.xhi) c.get.ensures in
    let test = c.row-test.false in
    let done : band.area.xhi ≤ℤ (tile_at now id).area.xhi = omega (arith, ints) in
    fill_ends band id c.args.store.now now c.requires.proper c.requires.near c.requires.free c.row.invariant done
