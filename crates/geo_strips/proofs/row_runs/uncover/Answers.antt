use Rattle.geo_strips.proofs.Common.{◌≡◌, ◌<ℤ◌, arith, rules, to_z, of_z, w64, int_cmp, get, ints, to_z-of_z}
use Rattle.geo_strips.proofs.RowLaws.{first_clear, second_clear, uncovered, uncovered_before}
use Rattle.geo_strips.proofs.row_runs.uncover.Goals as goal

pub place-requires-clause-clear : goal.place-requires-clause-clear
place-requires-clause-clear c =
    let from : to_z w64 (of_z w64 c.args.from) ≡ c.args.from = to_z-of_z w64 c.args.from c.ranges.from in
    let to : to_z w64 (of_z w64 c.args.to) ≡ c.args.to = to_z-of_z w64 c.args.to c.ranges.to in
    let long : c.args.from <ℤ c.args.to = omega (arith, ints, c.if-to-from.false) in
    let left : to_z w64 (of_z w64 c.in_ok-left.left) ≡ c.in_ok-left.left = to_z-of_z w64 c.in_ok-left.left (search rules) in
    rw (left, from) (first_clear c.args.from c.args.to c.in_ok-left.left c.in_ok-left.right (get int_cmp c.args.runs.now) (get int_cmp c.take.new.runs)
    (rw (from, to) at c.in_ok-left.ensures.taken) long)

pub place-requires-2-clause-clear : goal.place-requires-2-clause-clear
place-requires-2-clause-clear c =
    let from : to_z w64 (of_z w64 c.args.from) ≡ c.args.from = to_z-of_z w64 c.args.from c.ranges.from in
    let to : to_z w64 (of_z w64 c.args.to) ≡ c.args.to = to_z-of_z w64 c.args.to c.ranges.to in
    let long : c.args.from <ℤ c.args.to = omega (arith, ints, c.if-to-from.false) in
    let left : to_z w64 (of_z w64 c.in_ok-left.left) ≡ c.in_ok-left.left = to_z-of_z w64 c.in_ok-left.left (search rules) in
    let right : to_z w64 (of_z w64 c.in_ok-left.right) ≡ c.in_ok-left.right = to_z-of_z w64 c.in_ok-left.right (search rules) in
    rw (to, right) (second_clear c.args.from c.args.to c.in_ok-left.left c.in_ok-left.right (get int_cmp c.args.runs.now) (get int_cmp c.take.new.runs)
    (rw (from, to) at c.in_ok-left.ensures.taken) _
    (get int_cmp c.place.new.runs) long (rw (left, from) at c.in_ok-place.ensures))

pub returns : goal.returns
returns c =
    let from : to_z w64 (of_z w64 c.args.from) ≡ c.args.from = to_z-of_z w64 c.args.from c.ranges.from in
    let to : to_z w64 (of_z w64 c.args.to) ≡ c.args.to = to_z-of_z w64 c.args.to c.ranges.to in
    let row : to_z w64 (of_z w64 c.args.row) ≡ c.args.row = to_z-of_z w64 c.args.row c.ranges.row in
    let long : c.args.from <ℤ c.args.to = omega (arith, ints, c.if-to-from.false) in
    let left : to_z w64 (of_z w64 c.in_ok-left.left) ≡ c.in_ok-left.left = to_z-of_z w64 c.in_ok-left.left (search rules) in
    let right : to_z w64 (of_z w64 c.in_ok-left.right) ≡ c.in_ok-left.right = to_z-of_z w64 c.in_ok-left.right (search rules) in
    uncovered c.args.from c.args.to c.in_ok-left.left c.in_ok-left.right (get int_cmp c.args.runs.now) (get int_cmp c.take.new.runs)
    (rw (from, to) at c.in_ok-left.ensures.taken) c.args.row
    (get int_cmp c.place.new.runs) (get int_cmp c.place-2.new.runs) c.args.found.now.items c.take.new.found.items long (rw row at c.in_ok-left.ensures.changes)
    (rw (left, from, row) at c.in_ok-place.ensures) (rw (to, right, row) at c.in_ok-place-2.ensures)

pub returns-then-to-from : goal.returns-then-to-from
returns-then-to-from c = uncovered_before c.args.from c.args.to c.args.row (get int_cmp c.args.runs.now) c.args.found.now.items c.requires
    (omega (arith, ints, c.if-to-from.true))
