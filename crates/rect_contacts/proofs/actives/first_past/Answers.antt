use Rattle.rect_contacts.proofs.Common.{rules, ◌≡◌, pos, ◌+ℤ◌, ◌≤ℤ◌, arith, to_z, of_z, refl, sym, subst, ints, to_z-of_z}
use Rattle.std.proofs.Common.{w64}
use Rattle.std.specs.Int.RustNames.{FitsSigned}
use Rattle.std.specs.Option.{IsSome}
use Rattle.geo_strips.proofs.RowLaws.{from_not_gt, not_gt}
use Rattle.rect_contacts.proofs.actives.first_past.Goals as goal

pub returns-clause-some : goal.returns-clause-some
returns-clause-some c =
    let r = c.range.ensures.in_range tt in
    let h = c.in_ok-to.ensures.steps in
    let x : to_z w64 (of_z w64 c.args.x) ≡ c.args.x = to_z-of_z w64 c.args.x c.ranges.x in
    let to : to_z w64 (of_z w64 c.in_ok-to.to.now) ≡ c.in_ok-to.to.now = to_z-of_z w64 c.in_ok-to.to.now (search rules) in
    let fits : FitsSigned w64 (c.args.x +ℤ pos 1) = search rules in
    let next : to_z w64 (of_z w64 (c.args.x +ℤ pos 1)) ≡ c.args.x +ℤ pos 1 = to_z-of_z w64 (c.args.x +ℤ pos 1) fits in
    let found = rw (x, next) at (rw h at r.1) in
    let past : (c.args.x +ℤ pos 1) ≤ℤ c.in_ok-to.to.now = from_not_gt (c.args.x +ℤ pos 1) c.in_ok-to.to.now found.0.0 in
    rw to (record {
      there = found.1;
      past = omega (arith, ints, past);
      first = λ a other there far.
          let least = rw (x, next, h) at r.2 in
          let up : (c.args.x +ℤ pos 1) ≤ℤ a = omega (arith, ints, far) in
          from_not_gt c.in_ok-to.to.now a (least a (not_gt (c.args.x +ℤ pos 1) a up, tt) (subst IsSome (sym there) refl));
    })
