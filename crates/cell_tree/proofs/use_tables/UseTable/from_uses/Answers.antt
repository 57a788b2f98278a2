use Rattle.cell_tree.proofs.Common.{ℕ, List, ◌++◌, map, sym, ap, subst, ◌∙◌, Vec, Global, UseBody, HaveOwnIds}
use Rattle.cell_tree.proofs.PushLaws.{id_is_new}
use Rattle.cell_tree.proofs.use_tables.UseTable.from_uses.Goals as goal

pub push-requires-clause-new : goal.push-requires-clause-new
push-requires-clause-new c k has =
    id_is_new c.reserve.new.self.entries (map (λ entry. (entry.0.items, entry.1)) c.next.new.self.rest.items) (c.in-Some.id.items, c.in-Some.used)
    (subst HaveOwnIds (sym c.loop-id.invariant
    ∙ ap (λ (entries : List (List ℕ × UseBody)). entries ++ map (λ entry. (entry.0.items, entry.1)) c.loop-id.id-iterator.rest.items)
    (sym c.reserve.ensures.kept)
    ∙ ap (λ (rest : List (Vec ℕ Global × UseBody)). c.reserve.new.self.entries ++ map (λ entry. (entry.0.items, entry.1)) rest) c.in-Some.ensures.steps.0)
    c.requires) k has
