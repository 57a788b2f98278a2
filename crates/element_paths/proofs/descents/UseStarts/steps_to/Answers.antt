use Rattle.element_paths.proofs.Common.{List, sym, subst, arith, seen, Step}
use Rattle.element_paths.proofs.DescentLaws.{at_end, none_yet, one_more, LeadsOn}
use Rattle.element_paths.proofs.descents.UseStarts.steps_to.Goals as goal

pub loop-below-init : goal.loop-below-init
loop-below-init c = record {
  starts = c.requires.starts;
  upper = c.requires.cell;
  below = c.requires.element;
  on = none_yet (seen c.args.library.now) c.args.cell.0 c.args.element c.new-steps.result.items c.new-steps.ensures.items;
}

pub step_down-requires-clause-starts : goal.step_down-requires-clause-starts
step_down-requires-clause-starts c = c.loop-below.invariant.starts

pub step_down-requires-clause-cell : goal.step_down-requires-clause-cell
step_down-requires-clause-cell c = c.loop-below.invariant.upper

pub step_down-requires-clause-element : goal.step_down-requires-clause-element
step_down-requires-clause-element c = c.loop-below.invariant.below

pub loop-below-preserved : goal.loop-below-preserved
loop-below-preserved c =
    let view = seen c.args.library.now in
    let step = c.in_ok-step.step in
    record {
      starts = c.step_down.ensures.starts;
      upper = c.in_ok-step.ensures.step.child;
      below = c.in_ok-step.ensures.step.there;
      on = subst (λ (steps : List Step). LeadsOn view c.args.cell.0 c.args.element steps step.child.0 step.element)
          (sym c.in_ok-push.ensures.items)
          (one_more c.args.library.now c.args.cell.0 c.args.element c.loop-below.upper.0 c.loop-below.below c.loop-below.steps.items step
          c.loop-below.invariant.on c.in_ok-step.ensures.step);
    }

pub returns-clause-starts : goal.returns-clause-starts
returns-clause-starts c = c.loop-below.invariant.starts

pub returns-clause-steps : goal.returns-clause-steps
returns-clause-steps c =
    let none = c.loop-below-test.false in
    at_end (seen c.args.library.now) c.args.cell.0 c.args.element c.loop-below.upper.0 c.loop-below.below c.loop-below.steps.items
    c.loop-below.invariant.on (omega (arith, none))
