-- The sides were sorted, and what stands twice taken out.
use Rattle.interact.proofs.Common.{sym, subst, In}
use Rattle.std.proofs.lemmas.List.Filters.{dedup_is}
use Rattle.geo_strips.proofs.RowEventLaws.{sides_in_order, sides_kept}
use Rattle.interact.proofs.edges.sides.Goals as goal

pub returns-clause-all : goal.returns-clause-all
returns-clause-all c x i =
    sides_kept c.in_ok-found.found.items c.sort_unstable.new.self.items c.dedup.new.self.items x c.sort_unstable.ensures.permutation
    (dedup_is _ _ _ c.dedup.ensures.filtered)
    (subst (In x) (sym c.in_ok-found.ensures) i)

pub returns-clause-ordered : goal.returns-clause-ordered
returns-clause-ordered c = sides_in_order c.sort_unstable.new.self.items c.dedup.new.self.items c.sort_unstable.ensures.sorted
    (dedup_is _ _ _ c.dedup.ensures.filtered)
