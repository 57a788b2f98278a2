use Rattle.tile_plane.proofs.Common.{◌≡◌, ℤ, w64, to_z, of_z, subst, arith, rules, ints, to_z-of_z, tile_at, IsPartFrom, IsTileCut}
use Rattle.tile_plane.proofs.LaidLaws.{IsCutFrom, cut_from, laid_cut}
use Rattle.tile_plane.proofs.pieces.part_of.Goals as goal

pub returns-clause-laid : goal.returns-clause-laid
returns-clause-laid c =
    let old = c.args.store.now in
    let mid = c.part_from.new.store in
    let new = c.cut_top.new.store in
    let y = c.args.rows.now.ylo in
    let top = c.args.rows.now.yhi in
    let rest = c.in_ok-rest.rest in
    let part = c.in_ok-part.part in
    let order = c.requires.high in
    let up = c.requires.to in
    let same_y : to_z w64 (of_z w64 y) ≡ y = to_z-of_z w64 y (search rules) in
    let same_top : to_z w64 (of_z w64 top) ≡ top = to_z-of_z w64 top (search rules) in
    let is : IsPartFrom c.args.id rest y old mid = subst (λ (v : ℤ). IsPartFrom c.args.id rest v old mid) same_y c.in_ok-rest.ensures.part in
    let from : IsCutFrom c.args.id rest y old mid = cut_from old mid c.args.id rest y (omega (arith, ints)) is in
    let ends = c.in_ok-part.ensures in
    let cut : IsTileCut rest top mid new = subst (λ (v : ℤ). IsTileCut rest v mid new) same_top ends.cut in
    let area : (tile_at new part).area ≡ record (tile_at mid rest).area { yhi = top } =
    subst (λ (v : ℤ). (tile_at new part).area ≡ record (tile_at mid rest).area { yhi = v }) same_top ends.area in
    laid_cut old mid new c.args.id rest part y top ends.partition c.requires.taken c.requires.from order up from.cut from.area from.value cut area ends.value
