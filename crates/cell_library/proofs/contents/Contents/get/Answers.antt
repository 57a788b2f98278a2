use Rattle.cell_library.proofs.Common.{sym, ap, ◌∙◌, values_of, List, Held, held_at}
use Rattle.cell_library.proofs.ContentLaws.{held_value}
use Rattle.cell_library.proofs.contents.Contents.get.Goals as goal

pub returns : goal.returns
returns c =
    sym (held_value (values_of c.self.inside.entries.entries) c.args.cell c.index.result.now c.index.ensures)
    ∙ ap (λ (contents : List Held). held_at contents c.args.cell) c.self.view_is
