use Rattle.element_tree.proofs.Common.{rules, is_lt, element_cmp}
use Rattle.std.proofs.lemmas.Fn.{always_returns_same}
use Rattle.std.proofs.lemmas.List.Sorted.{ranks_by}
use Rattle.element_tree.specs.steps.NameOrder.{id_at}
use Rattle.element_tree.proofs.NameOrders.{element_cmp_total}
use Rattle.element_tree.proofs.name_order.in_name_order.Goals as goal

pub returns-clause-sorted : goal.returns-clause-sorted
returns-clause-sorted c = c.sort_unstable_by.ensures.sorted (λ a b. is_lt (element_cmp (id_at c.args.uses.now a) (id_at c.args.uses.now b)))
    (ranks_by element_cmp_total (id_at c.args.uses.now))
    (always_returns_same _ _ _ (λ a r f k. search rules))
