use Rattle.tile_plane.proofs.Common.{◌≡◌, inl, inr, ℤ, w64, to_z, of_z, refl, ap, subst, arith, ints, to_z-of_z, Tile, IsCutAcross}
use Rattle.tile_plane.proofs.cuts.part_from.Goals as goal

pub returns-then-get-y-clause-part : goal.returns-then-get-y-clause-part
returns-then-get-y-clause-part c =
    let same : to_z w64 (of_z w64 c.args.y) ≡ c.args.y = to_z-of_z w64 c.args.y c.ranges.y in
    let edge = ap (λ (t : Tile). t.area.ylo) c.get.ensures in
    let parts = c.in_ok-parts.parts in
    inr (
      parts.0,
      omega (arith, ints),
      subst (λ (v : ℤ). IsCutAcross c.args.id parts.0 parts.1 v c.args.store.now c.cut_in_two.new.store) same
          c.in_ok-parts.ensures.cut,
    )

pub returns-clause-part : goal.returns-clause-part
returns-clause-part c =
    let edge = ap (λ (t : Tile). t.area.ylo) c.get.ensures in
    inl (omega (arith, ints), refl, refl)
