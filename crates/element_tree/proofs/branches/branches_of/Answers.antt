use Rattle.element_tree.proofs.Common.{◌≡◌, length, subst, sym, IsPermutation, range_with_len, IsSorted, element_cmp, value_at, AreBranchesOf}
use Rattle.element_tree.specs.steps.NameOrder.{id_at}
use Rattle.element_tree.proofs.Steps.{AreNumbers}
use Rattle.element_tree.proofs.RankSums.{ranks_are}
use Rattle.element_tree.proofs.branches.branches_of.Goals as goal

pub returns : goal.returns
returns c = λ small.
    let uses = c.args.uses.now in
    let children = c.args.children.now in
    let numbers = c.as_slice.result.now in
    let same : c.in_ok-numbers.numbers.items ≡ numbers = sym c.as_slice.ensures.value in
    let moved : IsPermutation (range_with_len 0 (length children)) numbers =
    subst (λ n. IsPermutation (range_with_len 0 n) numbers) (sym c.requires.long)
    (subst (λ z. IsPermutation (range_with_len 0 (length uses)) z) same c.in_ok-numbers.ensures.moved) in
    let sorted : IsSorted (λ a b. element_cmp (id_at uses a) (id_at uses b)) numbers =
    subst (λ z. IsSorted (λ a b. element_cmp (id_at uses a) (id_at uses b)) z) same c.in_ok-numbers.ensures.sorted in
    let are : AreNumbers children numbers = record { is = moved } in
    subst (AreBranchesOf (value_at c.args.sizes.now) uses children) (sym c.of-2.ensures)
    (ranks_are (value_at c.args.sizes.now) uses children numbers c.requires.long c.requires.names are sorted c.with_rank_steps-branches.result.items
    c.with_rank_steps-branches.ensures.steps c.with_rank_steps-branches.ensures.ranks)
