use Rattle.geo_strips.proofs.Common.{◌≡◌, arith, rules, to_z, of_z, w64, int_cmp, get, ints, to_z-of_z}
use Rattle.std.proofs.lemmas.Result.{on_ok_weaker}
use Rattle.geo_strips.proofs.RowLaws.{taken_clear, covered, covered_from}
use Rattle.geo_strips.proofs.row_runs.cover.Goals as goal

pub place-requires-clause-clear : goal.place-requires-clause-clear
place-requires-clause-clear c =
    let left : to_z w64 (of_z w64 c.in_ok-left.left) ≡ c.in_ok-left.left = to_z-of_z w64 c.in_ok-left.left (search rules) in
    let right : to_z w64 (of_z w64 c.in_ok-left.right) ≡ c.in_ok-left.right = to_z-of_z w64 c.in_ok-left.right (search rules) in
    rw (left, right) (taken_clear _ _ c.in_ok-left.left c.in_ok-left.right (get int_cmp c.args.runs.now) (get int_cmp c.take.new.runs)
    c.in_ok-left.ensures.taken)

pub returns : goal.returns
returns c =
    let from : to_z w64 (of_z w64 c.args.from) ≡ c.args.from = to_z-of_z w64 c.args.from c.ranges.from in
    let to : to_z w64 (of_z w64 c.args.to) ≡ c.args.to = to_z-of_z w64 c.args.to c.ranges.to in
    let row : to_z w64 (of_z w64 c.args.row) ≡ c.args.row = to_z-of_z w64 c.args.row c.ranges.row in
    let left : to_z w64 (of_z w64 c.in_ok-left.left) ≡ c.in_ok-left.left = to_z-of_z w64 c.in_ok-left.left (search rules) in
    let right : to_z w64 (of_z w64 c.in_ok-left.right) ≡ c.in_ok-left.right = to_z-of_z w64 c.in_ok-left.right (search rules) in
    covered c.args.from c.args.to c.in_ok-left.left c.in_ok-left.right (get int_cmp c.args.runs.now) (get int_cmp c.take.new.runs)
    (rw (from, to) at c.in_ok-left.ensures.taken) c.args.row
    (get int_cmp c.place.new.runs) c.args.found.now.items c.take.new.found.items (rw row at c.in_ok-left.ensures.changes)
    (rw (left, right, row) at c.in_ok-place.ensures)

pub returns-then-run-row : goal.returns-then-run-row
returns-then-run-row c =
    let from : to_z w64 (of_z w64 c.args.from) ≡ c.args.from = to_z-of_z w64 c.args.from c.ranges.from in
    let to : to_z w64 (of_z w64 c.args.to) ≡ c.args.to = to_z-of_z w64 c.args.to c.ranges.to in
    let row : to_z w64 (of_z w64 c.args.row) ≡ c.args.row = to_z-of_z w64 c.args.row c.ranges.row in
    let last = rw from at c.in-Some.ensures.some in
    on_ok_weaker c.lengthen.result (covered_from c.args.from c.args.to c.args.row c.in-Some.start c.in-Some.run' (get int_cmp c.args.runs.now)
    (get int_cmp c.lengthen.new.runs) c.args.found.now.items c.lengthen.new.found.items last.begins last.no_later
    (omega (arith, ints, c.if-from-run.true))) (rw (to, row) at c.lengthen.ensures)
