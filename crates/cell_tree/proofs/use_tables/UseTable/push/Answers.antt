use Rattle.cell_tree.proofs.Common.{ap, ◌∙◌, insert}
use Rattle.std.proofs.lemmas.List.Edits.{insert_end}
use Rattle.cell_tree.proofs.use_tables.UseTable.push.Goals as goal

pub returns : goal.returns
returns c =
    c.insert.ensures ∙ ap (λ n. insert c.args.self.now.entries n (c.args.id.items, c.args.used)) c.len-end.ensures
    ∙ insert_end c.args.self.now.entries (c.args.id.items, c.args.used)
