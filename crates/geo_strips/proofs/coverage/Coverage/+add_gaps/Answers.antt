use Rattle.geo_strips.proofs.Common.{◌≡◌, Box, Global, ◌≤ℤ◌, ap, ◌∙◌, subst, arith, to_z, of_z, rules, int_max, int_min, w64, ints, to_z-of_z}
use Rattle.geo_strips.proofs.Common.{IsTopped, least_of}
use Rattle.geo_strips.proofs.CoverageLaws.{all_gap, cut_gaps, on_ok, stored_min, stored_max}
use Rattle.geo_strips.proofs.coverage.Coverage.+add_gaps.Goals as goal

pub returns-then-most-row : goal.returns-then-most-row
returns-then-most-row t c =
    let h = c.add_gap.ensures in
    on_ok c.add_gap.result (all_gap c.args.self.now c.args.from c.args.to c.args.row c.args.gaps.now.items c.add_gap.new.gaps.items c.requires
    (omega (arith, ints, c.most.ensures, c.if-most-row.true)))
    (rw (to_z-of_z w64 c.args.from c.ranges.from, to_z-of_z w64 c.args.to c.ranges.to) at c.add_gap.ensures)

pub returns-in_ok-add_gaps-2 : goal.returns-in_ok-add_gaps-2
returns-in_ok-add_gaps-2 t c =
    let fork = c.in-Cut.fork.value in
    let now = c.deref-fork.result.now in
    let d = c.deref-fork.ensures in
    let box : Box (Unit {0}) Global = record { ptr = c.in-Cut.fork.ptr; alloc = c.in-Cut.fork.alloc; value = tt {0} } in
    let topped = subst IsTopped c.in-Cut.is c.requires in
    let from = to_z-of_z w64 c.args.from c.ranges.from in
    let to = to_z-of_z w64 c.args.to c.ranges.to in
    let row = to_z-of_z w64 c.args.row c.ranges.row in
    let at : now.at ≡ fork.at = ap (λ v. v.at) d in
    let last : to_z w64 (of_z w64 c.min.result) ≡ int_min c.args.to fork.at =
    to_z-of_z w64 c.min.result (search rules) ∙ stored_min c.min.result c.args.to now.at c.ranges.to (search rules) c.min.ensures.value
    ∙ ap (int_min c.args.to) at in
    let first : to_z w64 (of_z w64 c.max.result) ≡ int_max c.args.from fork.at =
    stored_max c.max.result c.args.from now.at (search rules) c.ranges.from (search rules) c.max.ensures.value ∙ ap (int_max c.args.from) at in
    let low : fork.least ≤ℤ c.args.row = omega (arith, ints, ap least_of c.in-Cut.is, c.least.ensures, c.if-row-least.false) in
    rw c.in-Cut.is (cut_gaps box fork.at fork.least fork.most fork.left fork.right c.args.from c.args.to c.args.row c.args.gaps.now.items
    c.add_gaps.new.gaps.items c.add_gaps-in-Cut.new.gaps.items low
    (rw (d, from, last, row) at c.in_ok-add_gaps.ensures) (rw (d, first, to, row) at c.in_ok-add_gaps-2.ensures))
