-- Each step moves by less than 2^53, and there are fewer than 2^64.
use Rattle.cif_expansion.proofs.Common.{◌+◌, ◌*◌, ◌^◌, sym, ◌∙◌, ap, subst, arith, take_all, composed, moved, MovesWithin, call_reach, chain_reach}
use Rattle.cif_expansion.proofs.ReachLaws.{composed-within, identity-within, within_weaker}
use Rattle.cif_expansion.proofs.StepLaws.{moved_more}
use Rattle.cif_expansion.proofs.placements.Placement.of_steps.Goals as goal

pub loop-step-init : goal.loop-step-init
loop-step-init c = record {
  value = c.identity-placement.ensures;
  near = subst (MovesWithin 0) (sym c.identity-placement.ensures) identity-within;
}

pub then-placement-requires-clause-inner_move : goal.then-placement-requires-clause-inner_move
then-placement-requires-clause-inner_move c =
    within_weaker (c.loop-step.step-index * 2 ^ 53) chain_reach c.loop-step.placement (omega arith) c.loop-step.invariant.near

pub loop-step-preserved : goal.loop-step-preserved
loop-step-preserved c =
    let i = c.loop-step.step-index in
    let both = composed-within c.loop-step.placement c.of_step.result (i * 2 ^ 53) (2 ^ 53) c.loop-step.invariant.near c.of_step.ensures.near in
    record {
      value = moved_more c.args.steps.now i _ _ _ _ c.loop-step-test.true c.loop-step.invariant.value c.of_step.ensures.value c.then-placement.ensures;
      near = subst (MovesWithin ((i + 1) * 2 ^ 53)) (sym c.then-placement.ensures)
          (within_weaker (i * 2 ^ 53 + 2 ^ 53) ((i + 1) * 2 ^ 53) (composed c.loop-step.placement c.of_step.result) (omega arith) both);
    }

pub returns : goal.returns
returns c =
    let all = take_all c.loop-step.step-index c.args.steps.now c.loop-step-test.false in
    record {
      value = c.loop-step.invariant.value ∙ ap moved all;
      near = within_weaker (c.loop-step.step-index * 2 ^ 53) call_reach c.loop-step.placement (omega arith) c.loop-step.invariant.near;
    }
