use Rattle.cell_paint.proofs.Common.{◌∙◌, sym, layout_of}
use Rattle.std.proofs.lemmas.Result.{on_ok_weaker}
use Rattle.cell_paint.proofs.PaintLaws.{painted_in_order}
use Rattle.cell_paint.proofs.paints.CellPaint.paint_all.Goals as goal

pub returns-clause-painted : goal.returns-clause-painted
returns-clause-painted c =
    let raw = c.args.tech.now in
    let paint = c.args.self.now in
    on_ok_weaker c.change.result (λ changed place.
    changed place
    ∙ painted_in_order raw c.args.layer.0 c.raw.ensures.well_formed c.raw.ensures.rules.own_sets c.requires.layer c.args.areas.now (layout_of paint)
    (λ square. (c.change.ensures.sound raw (sym c.requires.kinds) square).0) place) c.change.ensures.changed
