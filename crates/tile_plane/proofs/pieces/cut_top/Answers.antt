use Rattle.tile_plane.proofs.Common.{◌≡◌, ℤ, w64, to_z, of_z, ap, subst, arith, ints, to_z-of_z, Tile, IsCutAcross}
use Rattle.tile_plane.proofs.LaidLaws.{cut_one}
use Rattle.tile_plane.proofs.pieces.cut_top.Goals as goal

pub returns-then-y-get-clause-cut : goal.returns-then-y-get-clause-cut
returns-then-y-get-clause-cut c =
    let edge = ap (λ (t : Tile). t.area.yhi) c.get.ensures in
    let test = c.if-y-get.true in
    let same : to_z w64 (of_z w64 c.args.y) ≡ c.args.y = to_z-of_z w64 c.args.y c.ranges.y in
    let parts = c.in_ok-parts.parts in
    let cut : IsCutAcross c.args.id parts.0 parts.1 c.args.y c.args.store.now c.cut_in_two.new.store =
    subst (λ (v : ℤ). IsCutAcross c.args.id parts.0 parts.1 v c.args.store.now c.cut_in_two.new.store) same c.in_ok-parts.ensures.cut in
    cut_one c.args.store.now c.cut_in_two.new.store c.args.id parts.0 parts.1 c.args.y c.requires.from (omega (arith, ints)) cut
