-- The runs that begin after the run are taken out, and then the run itself, which has no rows, is put in as it is now.
use Rattle.geo_strips.proofs.Common.{◌≡◌, ◌+ℤ◌, pos, arith, rules, to_z, of_z, w64, int_cmp, get, ints, to_z-of_z, without}
use Rattle.geo_strips.proofs.RowLaws.{taken_clear, taken_longer, longer}
use Rattle.geo_strips.proofs.row_runs.lengthen.Goals as goal

pub replace-requires-clause-long : goal.replace-requires-clause-long
replace-requires-clause-long c =
    let long = c.requires.apart.long c.args.start c.args.run c.requires.begins in
    let last = c.in_ok-right.ensures.taken.last in
    omega (arith, ints, long, last)

pub replace-requires-clause-clear : goal.replace-requires-clause-clear
replace-requires-clause-clear c =
    let start : to_z w64 (of_z w64 c.args.start) ≡ c.args.start = to_z-of_z w64 c.args.start c.ranges.start in
    let to : to_z w64 (of_z w64 c.args.to) ≡ c.args.to = to_z-of_z w64 c.args.to c.ranges.to in
    let end : to_z w64 (of_z w64 c.args.run.to) ≡ c.args.run.to = to_z-of_z w64 c.args.run.to (search rules) in
    let next : to_z w64 (of_z w64 (c.args.run.to +ℤ pos 1)) ≡ c.args.run.to +ℤ pos 1 = to_z-of_z w64 (c.args.run.to +ℤ pos 1) (omega (arith, ints)) in
    let right : to_z w64 (of_z w64 c.in_ok-right.right) ≡ c.in_ok-right.right = to_z-of_z w64 c.in_ok-right.right (search rules) in
    let runs = get int_cmp c.args.runs.now in
    let rest = get int_cmp c.take.new.runs in
    let taken = taken_longer c.args.to _ c.in_ok-right.right c.args.start c.args.run runs rest c.requires.apart c.requires.begins
    (rw (end, next, to) at c.in_ok-right.ensures.taken) (omega (arith, ints)) in
    rw (start, right) (taken_clear c.args.run.to c.args.to c.args.start c.in_ok-right.right runs (without c.args.start rest) taken)

pub returns : goal.returns
returns c =
    let start : to_z w64 (of_z w64 c.args.start) ≡ c.args.start = to_z-of_z w64 c.args.start c.ranges.start in
    let to : to_z w64 (of_z w64 c.args.to) ≡ c.args.to = to_z-of_z w64 c.args.to c.ranges.to in
    let row : to_z w64 (of_z w64 c.args.row) ≡ c.args.row = to_z-of_z w64 c.args.row c.ranges.row in
    let end : to_z w64 (of_z w64 c.args.run.to) ≡ c.args.run.to = to_z-of_z w64 c.args.run.to (search rules) in
    let next : to_z w64 (of_z w64 (c.args.run.to +ℤ pos 1)) ≡ c.args.run.to +ℤ pos 1 = to_z-of_z w64 (c.args.run.to +ℤ pos 1) (omega (arith, ints)) in
    let right : to_z w64 (of_z w64 c.in_ok-right.right) ≡ c.in_ok-right.right = to_z-of_z w64 c.in_ok-right.right (search rules) in
    longer c.args.to _ c.in_ok-right.right c.args.start c.args.run (get int_cmp c.args.runs.now) (get int_cmp c.take.new.runs)
    c.requires.apart c.requires.begins (rw (end, next, to) at c.in_ok-right.ensures.taken) (omega (arith, ints)) c.args.row
    (get int_cmp c.replace.new.runs) c.args.found.now.items c.take.new.found.items c.requires.since
    (rw row at c.in_ok-right.ensures.changes) (rw (start, right, row) at c.in_ok-replace.ensures)
