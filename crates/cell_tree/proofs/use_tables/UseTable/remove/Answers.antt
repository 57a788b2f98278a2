use Rattle.cell_tree.proofs.Common.{ap, ◌∙◌, map, ℕ, Vec, Global, remove, UseBody, UseList}
use Rattle.cell_tree.proofs.TableLaws.{map-remove}
use Rattle.cell_tree.proofs.use_tables.UseTable.remove.Goals as goal

pub returns : goal.returns
returns c =
    ap (map (λ (entry : Vec ℕ Global × UseBody). (entry.0.items, entry.1))) c.shift_remove_index.ensures.entries
    ∙ map-remove (λ (entry : Vec ℕ Global × UseBody). (entry.0.items, entry.1)) c.self.inside.entries.entries c.args.k
    ∙ ap (λ (uses : UseList). remove uses.entries c.args.k) c.self.view_is
