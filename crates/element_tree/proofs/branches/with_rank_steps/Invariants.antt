use Rattle.element_tree.proofs.Common.{◌≡◌, suc, take, sum_by, value_at, AreSteps, size_at, HaveRankSteps}
use Rattle.element_tree.proofs.branches.with_rank_steps.Given as goal

abbrev pub invariant-loop-number : goal.invariant-loop-number
invariant-loop-number l = record {
  rank : l.rank_step ≡ suc (sum_by (size_at (value_at l.sizes) l.children) (take l.number-index l.numbers));
  steps : AreSteps (value_at l.sizes) 1 l.children l.branches.items;
  ranks : HaveRankSteps (value_at l.sizes) l.children l.numbers l.number-index l.branches.items;
}
