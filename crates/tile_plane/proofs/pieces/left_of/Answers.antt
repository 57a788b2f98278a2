use Rattle.tile_plane.proofs.Common.{◌≡◌, ℤ, pos, ◌-ℤ◌, w64, to_z, of_z, subst, arith, rules, ints, to_z-of_z, Covers, plane_range, tile_at, Owns}
use Rattle.tile_plane.proofs.Common.{square_at}
use Rattle.tile_plane.proofs.pieces.left_of.Goals as goal

pub returns : goal.returns
returns c =
    let tiles = c.args.store.now in
    let x = (tile_at tiles c.args.id).area.xlo -ℤ pos 1 in
    let y = c.args.rows.now.ylo in
    let same : to_z w64 (of_z w64 y) ≡ y = to_z-of_z w64 y (search rules) in
    let taken = c.requires.taken.proper in
    let within = c.requires.partition.within c.args.id c.requires.taken in
    let inside : Covers plane_range (square_at x y) = omega (arith, ints) in
    subst (λ (v : ℤ). Covers plane_range (square_at x v) → Owns tiles c.left_at.result (square_at x v)) same c.left_at.ensures inside
