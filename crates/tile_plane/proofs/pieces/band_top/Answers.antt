use Rattle.tile_plane.proofs.Common.{◌≡◌, ℤ, pos, ◌-ℤ◌, ◌≤ℤ◌, ◌<ℤ◌, w64, to_z, of_z, sym, ◌∙◌, ap, subst, arith, rules, ints, to_z-of_z, Tile}
use Rattle.tile_plane.proofs.Common.{tile_at, Owns, square_at}
use Rattle.tile_plane.proofs.TileLaws.{owner_taken}
use Rattle.tile_plane.proofs.SideLaws.{beside_left}
use Rattle.tile_plane.proofs.TopLaws.{IsTopWalk, IsLowered, top_begins, top_on, top_nearer, top_ends}
use Rattle.tile_plane.proofs.pieces.band_top.Goals as goal

pub row-init : goal.row-init
row-init c =
    let tiles = c.args.store.now in
    let area = c.args.area.now in
    let first = c.args.first in
    let left = c.left_of-left.result in
    let mid = c.lower_top-beside.result in
    let top = c.lower_top-top.result in
    let same : to_z w64 (of_z w64 top) ≡ top = to_z-of_z w64 top (search rules) in
    let same_mid : to_z w64 (of_z w64 mid) ≡ mid = to_z-of_z w64 mid (search rules) in
    let same_high : to_z w64 (of_z w64 area.yhi) ≡ area.yhi = to_z-of_z w64 area.yhi (search rules) in
    let owns : Owns tiles left (square_at (area.xlo -ℤ pos 1) area.ylo) =
    subst (λ (v : ℤ). Owns tiles left (square_at (v -ℤ pos 1) area.ylo)) c.requires.begins c.left_of-left.ensures in
    let made = c.lower_top-beside.ensures in
    let within = made.within in
    let low : IsLowered (tile_at tiles left).area.yhi area.yhi mid =
    record { within = omega (arith, ints); reach = made.reach; above = λ y p q. made.above y (omega (arith, ints)) q } in
    let walk = top_begins tiles area c.requires.partition c.requires.proper left mid owns low in
    let covers = c.requires.owns.covers in
    let meets : (tile_at tiles left).area.xhi ≡ area.xlo =
    beside_left tiles first left area.ylo c.requires.partition (owner_taken tiles first _ c.requires.owns) covers.above_ylo covers.below_yhi
    c.left_of-left.ensures ∙ c.requires.begins in
    let next : Owns tiles first (square_at (tile_at tiles left).area.xhi area.ylo) =
    subst (λ (v : ℤ). Owns tiles first (square_at v area.ylo)) (sym meets) c.requires.owns in
    let more = c.lower_top-top.ensures in
    let lower = more.within in
    let last : IsLowered (tile_at tiles first).area.yhi mid top =
    record { within = omega (arith, ints); reach = more.reach; above = λ y p q. more.above y (omega (arith, ints)) q } in
    subst (λ (v : ℤ). IsTopWalk tiles area first v) (sym same) (top_on tiles area c.requires.partition c.requires.proper left first mid top walk next last)

pub row-preserved : goal.row-preserved
row-preserved c =
    let tiles = c.args.store.now in
    let area = c.args.area.now in
    let next = c.right_of-id.result in
    let top = to_z w64 c.row.top-bits in
    let new = c.lower_top-top-in-row.result in
    let same : to_z w64 (of_z w64 new) ≡ new = to_z-of_z w64 new (search rules) in
    let made = c.lower_top-top-in-row.ensures in
    let low : IsLowered (tile_at tiles next).area.yhi top new = record { within = made.within; reach = made.reach; above = made.above } in
    subst (λ (v : ℤ). IsTopWalk tiles area next v) (sym same)
    (top_on tiles area c.requires.partition c.requires.proper c.row.id next top new c.row.invariant c.right_of-id.ensures low)

pub row-smaller : goal.row-smaller
row-smaller c =
    let tiles = c.args.store.now in
    let area = c.args.area.now in
    let edge = ap (λ (t : Tile). t.area.xhi) c.get.ensures in
    let test = c.row-test.true in
    let more : (tile_at tiles c.row.id).area.xhi ≤ℤ area.xhi = omega (arith, ints) in
    top_nearer tiles area c.requires.partition c.requires.proper c.row.id c.right_of-id.result (to_z w64 c.row.top-bits) (to_z w64 c.row.top-bits)
    c.row.invariant c.right_of-id.ensures more

pub returns-clause-high : goal.returns-clause-high
returns-clause-high c =
    let tiles = c.args.store.now in
    let area = c.args.area.now in
    let edge = ap (λ (t : Tile). t.area.xhi) c.get.ensures in
    let test = c.row-test.false in
    let past : area.xhi <ℤ (tile_at tiles c.row.id).area.xhi = omega (arith, ints) in
    top_ends tiles area c.requires.partition c.requires.proper c.row.id (to_z w64 c.row.top-bits) c.row.invariant past

pub right_of-id-requires-clause-inside : goal.right_of-id-requires-clause-inside
right_of-id-requires-clause-inside c =
    let area = c.args.area.now in
    let edge = ap (λ (t : Tile). t.area.xhi) c.get.ensures in
    let test = c.row-test.true in
    let more : (tile_at c.args.store.now c.row.id).area.xhi ≤ℤ area.xhi = omega (arith, ints) in
    let near = c.requires.near.xhi.1 in
    omega (arith, ints)
