use Rattle.element_tree.proofs.Common.{◌≡◌, suc, take, sum_by, value_at, AreSteps}
use Rattle.element_tree.proofs.branches.with_steps.Given as goal

abbrev pub invariant-loop-child : goal.invariant-loop-child
invariant-loop-child l = record {
  step : l.step ≡ suc (sum_by (value_at l.sizes) (take l.child-index l.children));
  steps : AreSteps (value_at l.sizes) 1 (take l.child-index l.children) l.branches.items;
}
