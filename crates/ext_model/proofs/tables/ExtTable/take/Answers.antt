use Rattle.ext_model.proofs.Common.{sym, ap, ◌∙◌, Table}
use Rattle.std.specs.FinMap as fin_map
use Rattle.ext_model.proofs.EntryLaws.{entry_of-entries, from_entries-taken}
use Rattle.ext_model.proofs.tables.ExtTable.take.Goals as goal

pub returns-clause-old : goal.returns-clause-old
returns-clause-old c = c.remove.ensures.value ∙ sym (entry_of-entries _ _ _ c.self.view_is c.args.cell)

pub returns-clause-entries : goal.returns-clause-entries
returns-clause-entries c =
    from_entries-taken _ _ c.args.cell.0 c.remove.ensures.updates.0
    ∙ ap (λ (table : Table). fin_map.remove table.entries c.args.cell.0) c.self.view_is
