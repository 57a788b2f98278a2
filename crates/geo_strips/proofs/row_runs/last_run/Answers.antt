use Rattle.geo_strips.proofs.Common.{rules, ◌≡◌, ◌≤ℤ◌, to_z, of_z, refl, sym, subst, w64, to_z-of_z}
use Rattle.std.specs.Option.{IsSome}
use Rattle.geo_strips.proofs.RowLaws.{from_not_gt, not_gt, from_not_lt}
use Rattle.geo_strips.proofs.row_runs.last_run.Goals as goal

pub returns-clause-some : goal.returns-clause-some
returns-clause-some c =
    let r = c.range.ensures.in_range tt in
    let x : to_z w64 (of_z w64 c.args.x) ≡ c.args.x = to_z-of_z w64 c.args.x c.ranges.x in
    let from : to_z w64 (of_z w64 c.in_ok-from.from.now) ≡ c.in_ok-from.from.now = to_z-of_z w64 c.in_ok-from.from.now (search rules) in
    let found = r.3 _ _ c.in_ok-from.ensures.steps in
    rw from (record {
      begins = found.1;
      no_later = subst (λ v. c.in_ok-from.from.now ≤ℤ v) x (from_not_gt c.in_ok-from.from.now (to_z w64 (of_z w64 c.args.x)) found.0.1);
      last = λ a other begins no_later.
          from_not_lt c.in_ok-from.from.now a (r.4 _ _ c.in_ok-from.ensures.steps a
          (tt, not_gt a (to_z w64 (of_z w64 c.args.x)) (subst (λ v. a ≤ℤ v) (sym x) no_later)) (subst IsSome (sym begins) refl));
    })
