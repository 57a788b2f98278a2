use Rattle.names.proofs.Common.{rules, answers_always, name_cmp, name_cmp_total}
use Rattle.std.specs.Ordering.{is_lt}
use Rattle.std.proofs.lemmas.List.Sorted.{ranks_by}
use Rattle.names.proofs.naming.in_name_order.Goals as goal

pub returns-clause-sorted : goal.returns-clause-sorted
returns-clause-sorted c = c.sort_unstable_by.ensures.sorted (λ a b. is_lt (name_cmp a b)) (ranks_by name_cmp_total (λ a. a))
    (answers_always _ _ _ (λ f a r g h. search rules))
