use Rattle.element_tree.proofs.Common.{◌++◌, ◌∷◌, [], get_or, take, refl, sym, subst, arith, take_more, get_or_default, sum_by_more, Branch}
use Rattle.element_tree.proofs.Common.{value_at, AreSteps}
use Rattle.element_tree.proofs.Steps.{AreSteps-push}
use Rattle.element_tree.proofs.branches.with_steps.Goals as goal

pub loop-child-preserved : goal.loop-child-preserved
loop-child-preserved c =
    let size = value_at c.args.sizes.now in
    let children = c.args.children.now in
    let i = c.loop-child.child-index in
    let test = c.loop-child-test.true in
    let more = sum_by_more size children i 0 test in
    let same = get_or_default c.args.sizes.now (get_or children i 0) 0 1 (c.requires.within i 0 test) in
    let branch : Branch = record { child = get_or children i 0; step = c.loop-child.step; rank_step = 0 } in
    let steps = AreSteps-push size 1 (take i children) c.loop-child.branches.items (get_or children i 0) branch c.loop-child.invariant.steps refl
    (omega (arith, c.loop-child.invariant.step)) in
    record {
      step = omega (arith, more, same, c.loop-child.invariant.step);
      steps = subst (λ z. AreSteps size 1 z c.push.new.self.items) (sym (take_more children i 0 test))
          (subst (AreSteps size 1 (take i children ++ get_or children i 0 ∷ [])) (sym c.in_ok-push.ensures.items) steps);
    }
