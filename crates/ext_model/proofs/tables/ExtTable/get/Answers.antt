use Rattle.ext_model.proofs.Common.{sym, ap, ◌∙◌, option_map, ExtEntry}
use Rattle.ext_model.proofs.EntryLaws.{entry_of-entries}
use Rattle.ext_model.proofs.tables.ExtTable.get.Goals as goal

pub returns-in-Some : goal.returns-in-Some
returns-in-Some c =
    ap (option_map (λ (entry : ExtEntry). entry.ext)) (c.in-Some.ensures.value ∙ sym (entry_of-entries _ _ _ c.self.view_is c.args.cell))

pub returns-in-None : goal.returns-in-None
returns-in-None c =
    ap (option_map (λ (entry : ExtEntry). entry.ext)) (c.in-None.ensures.value ∙ sym (entry_of-entries _ _ _ c.self.view_is c.args.cell))
