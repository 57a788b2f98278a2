use Rattle.flatten.proofs.Common.{ℕ, rules, Side}
use Rattle.std.proofs.lemmas.List.Sorted.{answers_always}
use Rattle.flatten.proofs.OrderLaws.{sorted_by_node}
use Rattle.flatten.proofs.sides.by_node.Goals as goal

abbrev node_key : Side → ℕ
node_key side = side.node

pub returns-clause-sorted : goal.returns-clause-sorted
returns-clause-sorted c = sorted_by_node c.sort_unstable_by_key.new.self.items
    (c.sort_unstable_by_key.ensures.sorted node_key (answers_always _ _ _ (λ f a r g h. search rules)))
