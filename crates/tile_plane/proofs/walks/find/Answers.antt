use Rattle.tile_plane.proofs.Common.{◌≡◌, pos, ◌+ℤ◌, ◌-ℤ◌, w64, to_z, of_z, ap, arith, rules, ints, to_z-of_z, Tile, tile_at, Owns, square_at}
use Rattle.tile_plane.proofs.TileLaws.{owner_taken}
use Rattle.tile_plane.proofs.WalkLaws.{extent_falls, extent_falls_down}
use Rattle.tile_plane.proofs.walks.find.Goals as goal
use Rattle.tile_plane.proofs.walks.find.Goals.{After-right_at-id, After-left_at-id}

right_at_beside : (c : After-right_at-id) → Owns c.args.store.now c.right_at-id.result (square_at (tile_at c.args.store.now c.rightward.id).area.xhi (to_z w64 (of_z w64 c.args.square.y)))
right_at_beside c =
    let edge = ap (λ (t : Tile). t.area.xhi) c.get.ensures in
    let row = c.rightward.invariant in
    let within = c.requires.partition.within c.rightward.id row.taken in
    let same : to_z w64 (of_z w64 c.args.square.y) ≡ c.args.square.y = to_z-of_z w64 c.args.square.y (search rules) in
    c.right_at-id.ensures (let inside = c.requires.inside in omega (arith, ints))

pub rightward-preserved : goal.rightward-preserved
rightward-preserved c =
    let beside = right_at_beside (goal.at.rightward-preserved c).After-right_at-id in
    let covers = beside.covers in
    let same : to_z w64 (of_z w64 c.args.square.y) ≡ c.args.square.y = to_z-of_z w64 c.args.square.y (search rules) in
    record { taken = owner_taken _ _ _ beside; from = omega (arith, ints); to = omega (arith, ints) }

pub rightward-smaller : goal.rightward-smaller
rightward-smaller c =
    let edge = ap (λ (t : Tile). t.area.xhi) c.get.ensures in
    let covers = (right_at_beside (goal.at.rightward-smaller c).After-right_at-id).covers in
    extent_falls (tile_at c.args.store.now c.rightward.id).area.xhi (tile_at c.args.store.now c.right_at-id.result).area.xhi (c.args.square.x +ℤ pos 1)
    (omega (arith, ints)) (omega (arith, ints))

left_at_beside : (c : After-left_at-id) → Owns c.args.store.now c.left_at-id.result (square_at ((tile_at c.args.store.now c.leftward.id).area.xlo -ℤ pos 1) (to_z w64 (of_z w64 c.args.square.y)))
left_at_beside c =
    let edge = ap (λ (t : Tile). t.area.xlo) c.get-in-leftward.ensures in
    let row = c.leftward.invariant in
    let within = c.requires.partition.within c.leftward.id row.taken in
    let same : to_z w64 (of_z w64 c.args.square.y) ≡ c.args.square.y = to_z-of_z w64 c.args.square.y (search rules) in
    c.left_at-id.ensures (let inside = c.requires.inside in omega (arith, ints))

pub leftward-preserved : goal.leftward-preserved
leftward-preserved c =
    let edge = ap (λ (t : Tile). t.area.xlo) c.get-in-leftward.ensures in
    let beside = left_at_beside (goal.at.leftward-preserved c).After-left_at-id in
    let covers = beside.covers in
    let same : to_z w64 (of_z w64 c.args.square.y) ≡ c.args.square.y = to_z-of_z w64 c.args.square.y (search rules) in
    record { taken = owner_taken _ _ _ beside; from = omega (arith, ints); to = omega (arith, ints); reached = omega (arith, ints) }

pub leftward-smaller : goal.leftward-smaller
leftward-smaller c =
    let edge = ap (λ (t : Tile). t.area.xlo) c.get-in-leftward.ensures in
    let covers = (left_at_beside (goal.at.leftward-smaller c).After-left_at-id).covers in
    extent_falls_down c.args.square.x (tile_at c.args.store.now c.left_at-id.result).area.xlo (tile_at c.args.store.now c.leftward.id).area.xlo
    (omega (arith, ints)) (omega (arith, ints))

pub returns : goal.returns
returns c =
    let edge = ap (λ (t : Tile). t.area.xlo) c.get-in-leftward.ensures in
    omega (arith, ints)
