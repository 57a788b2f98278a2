use Rattle.names.proofs.Common.{rules, answers_always}
use Rattle.names.proofs.FirstTileLaws.{place_key, sorted_places}
use Rattle.names.proofs.first_tiles.in_place_order.Goals as goal

pub returns-clause-sorted : goal.returns-clause-sorted
returns-clause-sorted c = sorted_places c.sort_unstable_by_key.new.self.items
    (c.sort_unstable_by_key.ensures.sorted place_key (answers_always _ _ _ (λ f a r g h. search rules)))
