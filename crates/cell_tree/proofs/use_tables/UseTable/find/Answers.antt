use Rattle.cell_tree.proofs.Common.{sym, subst, UseList, HasIdAt}
use Rattle.cell_tree.proofs.TableLaws.{lookup_none, lookup_found}
use Rattle.cell_tree.proofs.use_tables.UseTable.find.Goals as goal

pub returns-in-Some-clause-found : goal.returns-in-Some-clause-found
returns-in-Some-clause-found c =
    subst (λ (uses : UseList). HasIdAt uses.entries c.in-Some.k c.args.id.now) c.self.view_is
    (lookup_found c.args.id.now c.self.inside.entries.entries c.in-Some.k c.in-Some.field-0-1.now c.in-Some.field-0-2.now (sym c.in-Some.ensures.key)
    c.in-Some.ensures.entry)

pub returns-in-None-clause-absent : goal.returns-in-None-clause-absent
returns-in-None-clause-absent c k has =
    lookup_none c.args.id.now c.self.inside.entries.entries (sym c.in-None.ensures.value) k
    (subst (λ (uses : UseList). HasIdAt uses.entries k c.args.id.now) (sym c.self.view_is) has)
