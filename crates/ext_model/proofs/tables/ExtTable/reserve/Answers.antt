use Rattle.ext_model.proofs.Common.{ap, ◌∙◌, Table}
use Rattle.ext_model.proofs.EntryLaws.{from_entries-reordered}
use Rattle.ext_model.proofs.tables.ExtTable.reserve.Goals as goal

pub returns-clause-entries : goal.returns-clause-entries
returns-clause-entries c = from_entries-reordered _ _ c.in_ok-reserve.ensures.entries.2 ∙ ap (λ (table : Table). table.entries) c.self.view_is
