use Rattle.geo_strips.proofs.Common.{arith, subst, w64, int_cmp, get, ints, to_z-of_z, IsLastRun}
use Rattle.geo_strips.proofs.RowLaws.{none_touches}
use Rattle.geo_strips.proofs.row_runs.touching_run.Goals as goal

pub returns-then-run-from-clause-none : goal.returns-then-run-from-clause-none
returns-then-run-from-clause-none c =
    let row = get int_cmp c.args.runs.now in
    let last = subst (λ v. IsLastRun row v c.in-Some.start c.in-Some.run') (to_z-of_z w64 c.args.to c.ranges.to) c.in-Some.ensures.some in
    none_touches row c.args.from c.args.to c.in-Some.start c.in-Some.run' c.requires last (omega (arith, ints, c.if-run-from.true))
