-- The planes below the index have their changes.
use Rattle.cell_paint.proofs.Common.{◌≡◌, length, with_columns_where, is_in_some, layout_on, AreAllChanges}
use Rattle.tech_model.specs.Columns.{brushed_column}
use Rattle.cell_paint.proofs.paints.all_changes.Given as goal

abbrev pub invariant-loop-plane : goal.invariant-loop-plane
invariant-loop-plane l = record {
  long : length l.changes.items ≡ l.plane;
  each : AreAllChanges (layout_on l.planes)
      (with_columns_where (brushed_column l.stroke.tech.now l.stroke.brush l.stroke.layer.0) (is_in_some l.areas) (layout_on l.planes)) l.changes.items;
}
