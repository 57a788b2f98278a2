use Rattle.cell_paint.proofs.Common.{refl, kind_after, kinds_on, layout_on}
use Rattle.tech_model.specs.Columns.{brushed_column}
use Rattle.cell_paint.proofs.ChangeLaws.{none_known}
use Rattle.cell_paint.proofs.changes.changed.Goals as goal

pub loop-piece-init : goal.loop-piece-init
loop-piece-init c =
    let stroke = c.args.stroke.now in
    let layout = layout_on c.args.planes.now in record {
      long = refl;
      known = none_known (kinds_on layout c.args.plane) (kind_after (brushed_column stroke.tech.now stroke.brush stroke.layer.0) layout c.args.plane) 256;
      found = c.new-found.ensures.items;
    }
