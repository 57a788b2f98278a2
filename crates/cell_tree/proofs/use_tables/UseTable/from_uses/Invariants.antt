use Rattle.cell_tree.proofs.Common.{◌≡◌, ◌++◌, map}
use Rattle.cell_tree.proofs.use_tables.UseTable.from_uses.Given as goal

abbrev pub invariant-loop-id : goal.invariant-loop-id
invariant-loop-id l = l.table.entries ++ map (λ entry. (entry.0.items, entry.1)) l.id-iterator.rest.items
    ≡ map (λ entry. (entry.0.items, entry.1)) l.fn.uses.items
