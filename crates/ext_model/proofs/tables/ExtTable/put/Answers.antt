use Rattle.ext_model.proofs.Common.{sym, ap, ◌∙◌, Table}
use Rattle.std.specs.FinMap as fin_map
use Rattle.ext_model.proofs.EntryLaws.{entry_of-entries, from_entries-put, finds_room}
use Rattle.ext_model.proofs.tables.ExtTable.put.Goals as goal

pub unreachable-requires : goal.unreachable-requires
unreachable-requires c =
    let none = entry_of-entries _ _ _ c.self.view_is c.args.cell ∙ c.in-Err.ensures.absent in
    let spare = ap (λ (table : Table). table.spare) c.self.view_is in
    let room = finds_room _ _ _ _ c.requires spare c.self.invariant none in
    let succeeds = c.in-Err.ensures.succeeds room in
    cc

pub returns-clause-old : goal.returns-clause-old
returns-clause-old c = c.in-Ok.ensures.old ∙ sym (entry_of-entries _ _ _ c.self.view_is c.args.cell)

pub returns-clause-entries : goal.returns-clause-entries
returns-clause-entries c =
    from_entries-put _ _ c.args.cell.0 c.args.entry c.in-Ok.ensures.updates.0
    ∙ ap (λ (table : Table). fin_map.insert table.entries c.args.cell.0 c.args.entry) c.self.view_is
