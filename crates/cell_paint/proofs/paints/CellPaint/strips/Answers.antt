use Rattle.cell_paint.proofs.Common.{◌<◌, ℕ, length, ap, subst, arith, Square, Paint}
use Rattle.geo_core.specs.Planes.{HasValue}
use Rattle.geo_core.specs.Strips.{IsStrips}
use Rattle.cell_paint.proofs.PaintTiles.{plane_seen}
use Rattle.cell_paint.proofs.paints.CellPaint.strips.Goals as goal

pub returns-clause-strips : goal.returns-clause-strips
returns-clause-strips c =
    let paint = c.args.self.now in
    let planes = c.self.inside.planes.items in
    let same = ap (λ (p : Paint). p.planes) c.self.view_is in
    let below : c.from.result < length planes = omega (arith, ap length same) in
    subst (λ (kinds : Square → ℕ). IsStrips (HasValue kinds c.args.kind.0) c.in_ok-strips.strips.items)
    (plane_seen paint planes c.from.result c.args.plane c.index.result.now same c.from.ensures below c.index.ensures) c.in_ok-strips.ensures.strips
