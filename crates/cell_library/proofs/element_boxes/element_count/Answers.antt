use Rattle.cell_library.proofs.Common.{arith, drop_all, ◌≡◌, ◌≤◌, ap, length, List, ℕ, drop, UseBody, seen, element_count, view_at}
use Rattle.cell_library.proofs.ElementCounts.{count_on, few_elements}
use Rattle.cell_library.proofs.element_boxes.element_count.Goals as goal

pub overflow_add-count : goal.overflow_add-count
overflow_add-count c =
    let uses : List (List ℕ × UseBody) = (view_at (seen c.args.library.now) c.args.cell.0).uses in
    let few = few_elements c.args.library.now c.lawful.ensures c.args.cell.0 c.requires in
    let on = count_on uses c.loop-k.k c.body_at.ensures.body.id c.body_at.result.now c.body_at.ensures.body.stands in
    omega (arith, few, on, c.loop-k.invariant, c.count_of-count.ensures)

pub loop-k-preserved : goal.loop-k-preserved
loop-k-preserved c =
    let uses : List (List ℕ × UseBody) = (view_at (seen c.args.library.now) c.args.cell.0).uses in
    let on = count_on uses c.loop-k.k c.body_at.ensures.body.id c.body_at.result.now c.body_at.ensures.body.stands in
    omega (arith, on, c.loop-k.invariant, c.count_of-count.ensures)

pub returns-clause-count : goal.returns-clause-count
returns-clause-count c =
    let uses : List (List ℕ × UseBody) = (view_at (seen c.args.library.now) c.args.cell.0).uses in
    let past : length uses ≤ c.loop-k.k = omega (arith, c.use_count-k-end.ensures, c.loop-k-test.false) in
    let none : element_count (drop c.loop-k.k uses) ≡ 0 = ap element_count (drop_all c.loop-k.k uses past) in
    omega (arith, none, c.loop-k.invariant)

pub returns-clause-few : goal.returns-clause-few
returns-clause-few c = let few = few_elements c.args.library.now c.lawful.ensures c.args.cell.0 c.requires in omega (arith, few, c.loop-k.invariant)
