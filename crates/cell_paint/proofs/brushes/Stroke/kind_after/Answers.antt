use Rattle.cell_paint.proofs.Common.{◌≡◌, ◌∙◌, ◌≤◌, List, sym, subst, MOST_TYPES, TypeId, type_on, brushed_column-whole}
use Rattle.tech_model.specs.Columns.{brushed_column}
use Rattle.cell_paint.proofs.ColumnsLaws.{column_small}
use Rattle.cell_paint.proofs.brushes.Stroke.kind_after.Goals as goal

pub returns-clause-few : goal.returns-clause-few
returns-clause-few c =
    let raw = c.args.self.now.tech.now in
    let brush = c.args.self.now.brush in
    let layer = c.args.self.now.layer.0 in
    let column = c.args.column in
    let w = c.raw.ensures.well_formed in
    subst (λ (after : List TypeId). type_on after c.args.plane ≤ MOST_TYPES) (sym c.brush_column.ensures)
    (column_small raw (brushed_column raw brush layer column) c.args.plane w
    (brushed_column-whole raw brush layer column w c.requires.layer c.requires.types).0)
