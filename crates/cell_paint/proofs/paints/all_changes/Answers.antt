use Rattle.tech_model.specs.Columns.{brushed_column}
use Rattle.cell_paint.proofs.Common.{with_columns_where, is_in_some, layout_on}
use Rattle.cell_paint.proofs.PaintLaws.{changes_more}
use Rattle.cell_paint.proofs.paints.all_changes.Goals as goal

pub loop-plane-preserved : goal.loop-plane-preserved
loop-plane-preserved c =
    let stroke = c.args.stroke.now in
    let old = layout_on c.args.planes.now in
    let more =
    changes_more old (with_columns_where (brushed_column stroke.tech.now stroke.brush stroke.layer.0) (is_in_some c.args.areas.now) old)
    c.loop-plane.changes.items
    c.add_changes.new.changes.items
    c.in_ok-changes_on.field-0 c.loop-plane.plane c.loop-plane.invariant.long c.in_ok-add_changes.ensures c.in_ok-changes_on.ensures.changes
    c.loop-plane.invariant.each in
    record { long = more.0; each = more.1 }
