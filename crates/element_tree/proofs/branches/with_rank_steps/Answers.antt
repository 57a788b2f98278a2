use Rattle.element_tree.proofs.Common.{get_or, ap, arith, rules, get_or_default, sum_by_more, Branch, value_at, size_at}
use Rattle.element_tree.proofs.Steps.{AreSteps-long, AreSteps-set, AreNumbers, number_within, numbers_long, numbers_sum, rank_steps_more}
use Rattle.element_tree.proofs.branches.with_rank_steps.Goals as goal

pub index_mut-requires : goal.index_mut-requires
index_mut-requires c =
    let are : AreNumbers c.args.children.now c.args.numbers.now = record { is = c.requires.numbers } in
    let within = number_within c.args.children.now c.args.numbers.now are c.loop-number.number-index 0 c.loop-number-test.true in
    let long = AreSteps-long _ _ _ _ c.loop-number.invariant.steps in
    omega (arith, within, long, c.loop-number.branches.ok)

pub offset_bounds-children-number : goal.offset_bounds-children-number
offset_bounds-children-number c =
    let are : AreNumbers c.args.children.now c.args.numbers.now = record { is = c.requires.numbers } in
    let within = number_within c.args.children.now c.args.numbers.now are c.loop-number.number-index 0 c.loop-number-test.true in
    search rules

pub bounds-children-number : goal.bounds-children-number
bounds-children-number c =
    let are : AreNumbers c.args.children.now c.args.numbers.now = record { is = c.requires.numbers } in
    number_within c.args.children.now c.args.numbers.now are c.loop-number.number-index 0 c.loop-number-test.true

pub bounds-sizes-children : goal.bounds-sizes-children
bounds-sizes-children c =
    let are : AreNumbers c.args.children.now c.args.numbers.now = record { is = c.requires.numbers } in
    c.requires.within _ 0 (number_within c.args.children.now c.args.numbers.now are c.loop-number.number-index 0 c.loop-number-test.true)

pub overflow_add-rank_step : goal.overflow_add-rank_step
overflow_add-rank_step c =
    let are : AreNumbers c.args.children.now c.args.numbers.now = record { is = c.requires.numbers } in
    let number = get_or c.args.numbers.now c.loop-number.number-index 0 in
    let within = number_within c.args.children.now c.args.numbers.now are c.loop-number.number-index 0 c.loop-number-test.true in
    let same = get_or_default c.args.sizes.now (get_or c.args.children.now number 0) 0 1 (c.requires.within number 0 within) in
    let sum = numbers_sum (value_at c.args.sizes.now) c.args.children.now c.args.numbers.now c.loop-number.number-index are c.loop-number-test.true in
    omega (arith, same, sum, c.requires.few, c.loop-number.invariant.rank)

pub loop-number-preserved : goal.loop-number-preserved
loop-number-preserved c =
    let are : AreNumbers c.args.children.now c.args.numbers.now = record { is = c.requires.numbers } in
    let size = value_at c.args.sizes.now in
    let i = c.loop-number.number-index in
    let number = get_or c.args.numbers.now i 0 in
    let within = number_within c.args.children.now c.args.numbers.now are i 0 c.loop-number-test.true in
    let same = get_or_default c.args.sizes.now (get_or c.args.children.now number 0) 0 1 (c.requires.within number 0 within) in
    let more = sum_by_more (size_at size c.args.children.now) c.args.numbers.now i 0 c.loop-number-test.true in
    let old = c.index_mut.ensures.value in
    record {
      rank = omega (arith, same, more, c.loop-number.invariant.rank);
      steps = AreSteps-set size 1 c.args.children.now c.loop-number.branches.items number c.index_mut.result.now _ c.loop-number.invariant.steps
          (ap (λ (z : Branch). z.child) old) (ap (λ (z : Branch). z.step) old);
      ranks = rank_steps_more size c.args.children.now c.args.numbers.now i c.loop-number.branches.items _ are c.loop-number-test.true
          (AreSteps-long _ _ _ _ c.loop-number.invariant.steps) c.loop-number.invariant.ranks c.loop-number.invariant.rank;
    }

pub returns-clause-ranks : goal.returns-clause-ranks
returns-clause-ranks c = λ place none h.
    let are : AreNumbers c.args.children.now c.args.numbers.now = record { is = c.requires.numbers } in
    let long = numbers_long c.args.children.now c.args.numbers.now are in
    c.loop-number.invariant.ranks place none (omega (arith, long, c.loop-number-test.false))
