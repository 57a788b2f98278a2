use Rattle.tile_members.proofs.Common.{List, sym, subst, All, RawTech}
use Rattle.tech_model.specs.declared.raw.Label.{Label}
use Rattle.group_meetings.specs.Names.Labels.{IsLabelOf}
use Rattle.element_paths.proofs.LibraryTrees.LabelLaws.{labels_may_name}
use Rattle.tile_members.proofs.opened_cells.OpenedCell.of.Goals as goal

pub cell_regions-requires-clause-labels : goal.cell_regions-requires-clause-labels
cell_regions-requires-clause-labels g c =
    let library = c.args.library.now in
    subst (λ (raw : RawTech). All (IsLabelOf raw) c.labels_of.result.now) (sym c.tech.ensures)
    (subst (λ (labels : List Label). All (IsLabelOf library.tech) labels) (sym c.labels_of.ensures)
    (labels_may_name library c.args.cell.0 c.lawful.ensures c.requires))
