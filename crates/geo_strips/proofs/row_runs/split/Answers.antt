-- The run is taken out alone, and what is left of it on each side is put in.
use Rattle.geo_strips.proofs.Common.{◌≡◌, arith, rules, to_z, of_z, w64, int_cmp, get, ints, to_z-of_z, without}
use Rattle.geo_strips.proofs.RowLaws.{is_without, taken_alone, changes_taken, first_clear, second_clear, uncovered}
use Rattle.geo_strips.proofs.row_runs.split.Goals as goal

pub replace-requires-clause-clear : goal.replace-requires-clause-clear
replace-requires-clause-clear c =
    let from : to_z w64 (of_z w64 c.args.from) ≡ c.args.from = to_z-of_z w64 c.args.from c.ranges.from in
    let start : to_z w64 (of_z w64 c.args.start) ≡ c.args.start = to_z-of_z w64 c.args.start c.ranges.start in
    let runs = get int_cmp c.args.runs.now in
    let taken = taken_alone c.args.from c.args.to c.args.start c.args.run runs c.requires.apart c.requires.begins (omega (arith, ints))
    (omega (arith, ints)) c.requires.after in
    rw (start, from) (first_clear c.args.from c.args.to c.args.start c.args.run.to runs (without c.args.start runs) taken c.requires.long)

pub place-requires-clause-clear : goal.place-requires-clause-clear
place-requires-clause-clear c =
    let from : to_z w64 (of_z w64 c.args.from) ≡ c.args.from = to_z-of_z w64 c.args.from c.ranges.from in
    let to : to_z w64 (of_z w64 c.args.to) ≡ c.args.to = to_z-of_z w64 c.args.to c.ranges.to in
    let start : to_z w64 (of_z w64 c.args.start) ≡ c.args.start = to_z-of_z w64 c.args.start c.ranges.start in
    let right : to_z w64 (of_z w64 c.args.run.to) ≡ c.args.run.to = to_z-of_z w64 c.args.run.to (search rules) in
    let runs = get int_cmp c.args.runs.now in
    let taken = taken_alone c.args.from c.args.to c.args.start c.args.run runs c.requires.apart c.requires.begins (omega (arith, ints))
    (omega (arith, ints)) c.requires.after in
    rw (to, right) (second_clear c.args.from c.args.to c.args.start c.args.run.to runs (without c.args.start runs) taken _
    (get int_cmp c.replace.new.runs) c.requires.long (rw (start, from) at c.in_ok-replace.ensures))

pub returns : goal.returns
returns c =
    let from : to_z w64 (of_z w64 c.args.from) ≡ c.args.from = to_z-of_z w64 c.args.from c.ranges.from in
    let to : to_z w64 (of_z w64 c.args.to) ≡ c.args.to = to_z-of_z w64 c.args.to c.ranges.to in
    let row : to_z w64 (of_z w64 c.args.row) ≡ c.args.row = to_z-of_z w64 c.args.row c.ranges.row in
    let start : to_z w64 (of_z w64 c.args.start) ≡ c.args.start = to_z-of_z w64 c.args.start c.ranges.start in
    let right : to_z w64 (of_z w64 c.args.run.to) ≡ c.args.run.to = to_z-of_z w64 c.args.run.to (search rules) in
    let runs = get int_cmp c.args.runs.now in
    let taken = taken_alone c.args.from c.args.to c.args.start c.args.run runs c.requires.apart c.requires.begins (omega (arith, ints))
    (omega (arith, ints)) c.requires.after in
    let changes = changes_taken c.args.row c.args.start c.args.run runs (without c.args.start runs) c.args.found.now.items c.write.new.found.items
    c.requires.begins (is_without c.args.start runs) c.in_ok-write.ensures.kept (rw (start, row) at c.in_ok-write.ensures.ended)
    (rw (start, row) at c.in_ok-write.ensures.only) in
    uncovered c.args.from c.args.to c.args.start c.args.run.to runs (without c.args.start runs) taken c.args.row (get int_cmp c.replace.new.runs)
    (get int_cmp c.place.new.runs) c.args.found.now.items c.write.new.found.items c.requires.long changes
    (rw (start, from, row) at c.in_ok-replace.ensures) (rw (to, right, row) at c.in_ok-place.ensures)
