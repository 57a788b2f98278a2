use Rattle.offences.proofs.Common.{ℕ, rules, SetTile}
use Rattle.std.proofs.lemmas.List.Sorted.{answers_always}
use Rattle.offences.proofs.OrderLaws.{sorted_by_part}
use Rattle.offences.proofs.set_tiles.by_part.Goals as goal

abbrev part_key : SetTile → ℕ
part_key tile = tile.part

pub returns-clause-ordered : goal.returns-clause-ordered
returns-clause-ordered c = sorted_by_part c.sort_unstable_by_key.new.self.items
    (c.sort_unstable_by_key.ensures.sorted part_key (answers_always _ _ _ (λ f a r g h. search rules)))
