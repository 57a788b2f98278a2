use Rattle.cell_library.specs.CellPaint.Paints.{layout_of}
use Rattle.layout_gen.proofs.MadeCells.{two_paints}
use Rattle.layout_gen.proofs.bodies.tile_paint.Goals as goal

pub returns-clause-layout : goal.returns-clause-layout
returns-clause-layout c =
    two_paints c.args.tech.now c.args.layers.now.poly.0 c.args.layers.now.diff.0 (layout_of c.in_ok-paint.paint) (layout_of c.paint_over.new.paint)
    (layout_of c.paint_over-2.new.paint) c.in_ok-paint.ensures.empty c.in_ok-paint_over.ensures.painted c.in_ok-paint_over-2.ensures.painted
