use Rattle.mag_text.proofs.Common.{List, sym, subst, All, RawTech, IsLayered}
use Rattle.tech_model.specs.declared.raw.Label.{Label}
use Rattle.mag_text.proofs.CellTextLaws.{labels_layered}
use Rattle.mag_text.proofs.cell_texts.cell_text.Goals as goal

pub write_cell-requires-clause-labels : goal.write_cell-requires-clause-labels
write_cell-requires-clause-labels c =
    let library = c.args.library.now in
    subst (λ (raw : RawTech). All (IsLayered raw) c.labels_of.result.now) (sym c.tech.ensures)
    (subst (λ (labels : List Label). All (IsLayered library.tech) labels) (sym c.labels_of.ensures)
    (labels_layered library c.args.cell.0 c.lawful.ensures c.requires))
