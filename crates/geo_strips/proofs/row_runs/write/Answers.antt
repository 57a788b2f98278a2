use Rattle.geo_strips.proofs.Common.{sym, subst, inl, inr, arith, rules, w64, ints, to_z-of_z, In, In-append_left, In-push, In-push_cases, bar_of}
use Rattle.geo_strips.proofs.row_runs.write.Goals as goal

pub returns-in_ok-push-clause-kept : goal.returns-in_ok-push-clause-kept
returns-in_ok-push-clause-kept c = λ bar i. subst (In bar) (sym c.in_ok-push.ensures.items) (In-append_left bar c.args.found.now.items _ i)

pub returns-in_ok-push-clause-ended : goal.returns-in_ok-push-clause-ended
returns-in_ok-push-clause-ended c =
    inl (rw (
      c.in_ok-push.ensures.items,
      to_z-of_z w64 c.args.from (search rules),
      to_z-of_z w64 c.args.run.to (search rules),
      to_z-of_z w64
          c.args.run.since (search rules),
      to_z-of_z w64 c.args.row (search rules),
    )
    (In-push c.args.found.now.items (bar_of c.args.from c.args.run c.args.row)))

pub returns-in_ok-push-clause-only : goal.returns-in_ok-push-clause-only
returns-in_ok-push-clause-only c = λ bar i. elim (In-push_cases bar c.args.found.now.items _ (subst (In bar) c.in_ok-push.ensures.items i)) [
  | inl k ↦ inl k
  | inr e ↦ inr (
    omega (arith, ints, c.if-run-row.true),
    rw (
      to_z-of_z w64 c.args.from (search rules),
      to_z-of_z w64 c.args.run.to
          (search rules),
      to_z-of_z w64 c.args.run.since (search rules),
      to_z-of_z w64 c.args.row (search rules),
    ) at e,
  )
]
