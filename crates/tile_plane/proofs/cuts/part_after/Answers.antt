use Rattle.tile_plane.proofs.Common.{◌≡◌, inl, inr, ℤ, w64, to_z, of_z, refl, ap, subst, arith, ints, to_z-of_z, Tile}
use Rattle.tile_plane.specs.steps.Cuts.{IsCutAlong}
use Rattle.tile_plane.proofs.cuts.part_after.Goals as goal

pub returns-then-x-area-clause-part : goal.returns-then-x-area-clause-part
returns-then-x-area-clause-part c =
    let edge = ap (λ (t : Tile). t.area.xlo) c.get.ensures in
    inl (omega (arith, ints), refl, refl)

pub overflow_sub-left : goal.overflow_sub-left
overflow_sub-left c =
    let within = c.requires.partition.within c.args.id c.requires.taken in
    rw c.get.ensures (omega (arith, ints))

pub overflow_sub-right : goal.overflow_sub-right
overflow_sub-right c =
    let within = c.requires.partition.within c.args.id c.requires.taken in
    rw c.get.ensures (omega (arith, ints))

pub returns-then-left-right-clause-part : goal.returns-then-left-right-clause-part
returns-then-left-right-clause-part c =
    let same : to_z w64 (of_z w64 c.args.x) ≡ c.args.x = to_z-of_z w64 c.args.x c.ranges.x in
    let edge = ap (λ (t : Tile). t.area.xlo) c.get.ensures in
    let left = c.in_ok-_left._left in
    inr (
      left,
      omega (arith, ints),
      subst (λ (v : ℤ). IsCutAlong c.args.id left c.args.id v c.args.store.now c.split_off.new.store) same
          c.in_ok-_left.ensures.cut,
    )

pub returns-clause-part : goal.returns-clause-part
returns-clause-part c =
    let same : to_z w64 (of_z w64 c.args.x) ≡ c.args.x = to_z-of_z w64 c.args.x c.ranges.x in
    let edge = ap (λ (t : Tile). t.area.xlo) c.get.ensures in
    let part = c.in_ok-part.part in
    inr (
      c.args.id,
      omega (arith, ints),
      subst (λ (v : ℤ). IsCutAlong c.args.id c.args.id part v c.args.store.now c.split_off-2.new.store) same
          c.in_ok-part.ensures.cut,
    )
