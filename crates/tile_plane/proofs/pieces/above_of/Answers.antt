use Rattle.tile_plane.proofs.Common.{◌≡◌, ℤ, w64, to_z, of_z, subst, arith, rules, ints, to_z-of_z, Covers, plane_range, tile_at, Owns, square_at}
use Rattle.tile_plane.proofs.pieces.above_of.Goals as goal

pub returns : goal.returns
returns c =
    let tiles = c.args.store.now in
    let x = c.args.area.now.xlo in
    let y = (tile_at tiles c.args.id).area.yhi in
    let same : to_z w64 (of_z w64 x) ≡ x = to_z-of_z w64 x (search rules) in
    let taken = c.requires.taken.proper in
    let from = c.requires.from in
    let to = c.requires.to in
    let ends = c.requires.ends in
    let top = c.requires.inside in
    let within = c.requires.partition.within c.args.id c.requires.taken in
    let inside : Covers plane_range (square_at x y) = omega (arith, ints) in
    let above : Owns tiles c.above_at.result (square_at x y) =
    subst (λ (v : ℤ). Covers plane_range (square_at v y) → Owns tiles c.above_at.result (square_at v y)) same c.above_at.ensures inside in
    subst (λ (v : ℤ). Owns tiles c.above_at.result (square_at x v)) ends above
