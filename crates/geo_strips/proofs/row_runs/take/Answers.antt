-- One run more is taken out, and at the end none is left that touches the columns.
use Rattle.geo_strips.proofs.Common.{◌≡◌, ap, ◌∙◌, rules, to_z, of_z, int_max, int_min, int_cmp, get, to_z-of_z}
use Rattle.std.proofs.Common.{w64}
use Rattle.geo_strips.proofs.RowLaws.{IsWithout, not_eq, fewer_runs, taking_more, taking_ends, changes_both, changes_taken, without_fewer}
use Rattle.geo_strips.proofs.row_runs.take.Goals as goal

pub loop-start-preserved : goal.loop-start-preserved
loop-start-preserved c =
    let before = get int_cmp c.args.runs.now in
    let old = get int_cmp c.loop-start.runs in
    let new = get int_cmp c.remove.new.self in
    let start = c.in-Some.start in
    let run = c.in-Some.run' in
    let first = to_z w64 c.loop-start.left-bits in
    let last = to_z w64 c.loop-start.right-bits in
    let is : to_z w64 (of_z w64 start) ≡ start = to_z-of_z w64 start (search rules) in
    let ends : to_z w64 (of_z w64 run.to) ≡ run.to = to_z-of_z w64 run.to (search rules) in
    let left : to_z w64 (of_z w64 c.min-left.result) ≡ int_min first start = to_z-of_z w64 c.min-left.result (search rules) ∙ c.min-left.ensures.value
    ∙ ap (int_min first) is in
    let right : to_z w64 (of_z w64 c.max-right.result) ≡ int_max last run.to = to_z-of_z w64 c.max-right.result (search rules)
    ∙ c.max-right.ensures.value ∙ ap (int_max last) ends in
    let u = rw is at c.remove.ensures.updates in
    let without : IsWithout start old new = record { none = u.1; others = λ a other. u.2 a (not_eq start a other) } in
    let touches = c.in-Some.ensures.some in
    let kept = c.in_ok-write.ensures.kept in
    let ended = rw is at c.in_ok-write.ensures.ended in
    let only = rw is at c.in_ok-write.ensures.only in
    record {
      taking = rw (left, right) (taking_more _ _ first last start run before old new c.loop-start.invariant.taking touches without);
      apart = fewer_runs old new (without_fewer start old new without) c.loop-start.invariant.apart;
      changes = changes_both _ before old new c.args.found.now.items c.loop-start.found.items c.write.new.found.items c.loop-start.invariant.changes
          (changes_taken _ start run old new c.loop-start.found.items c.write.new.found.items touches.begins without kept ended only);
    }

pub returns-clause-taken : goal.returns-clause-taken
returns-clause-taken c =
    let from : to_z w64 (of_z w64 c.args.from) ≡ c.args.from = to_z-of_z w64 c.args.from c.ranges.from in
    let to : to_z w64 (of_z w64 c.args.to) ≡ c.args.to = to_z-of_z w64 c.args.to c.ranges.to in
    taking_ends c.args.from c.args.to (to_z w64 c.loop-start.left-bits) (to_z w64 c.loop-start.right-bits) (get int_cmp c.args.runs.now)
    (get int_cmp c.loop-start.runs) c.requires.long c.requires.apart
    (rw (from, to) at c.loop-start.invariant.taking) (rw (from, to) at c.in_default.ensures.none)
