-- The edges were sorted by their rows.
use Rattle.interact.proofs.Common.{ℤ, rules, Edge}
use Rattle.std.proofs.lemmas.List.Sorted.{answers_always}
use Rattle.interact.proofs.EdgeLaws.{edges_sorted}
use Rattle.interact.proofs.edges.edges.Goals as goal

abbrev row_key : Edge → ℤ
row_key edge = edge.row

pub returns : goal.returns
returns c = edges_sorted c.args.rects.now c.in_ok-found.found.items c.sort_unstable_by_key.new.self.items c.in_ok-found.ensures.edges
    c.in_ok-found.ensures.fit c.sort_unstable_by_key.ensures.permutation
    (c.sort_unstable_by_key.ensures.sorted row_key (answers_always _ _ _ (λ f a r g h. search rules)))
