use Rattle.cell_paint.proofs.Common.{◌<◌, ℕ, length, ap, subst, arith, Square, AreTilesIn, Paint}
use Rattle.cell_paint.proofs.PaintTiles.{plane_seen}
use Rattle.cell_paint.proofs.paints.CellPaint.tiles_in.Goals as goal

pub returns-clause-tiles : goal.returns-clause-tiles
returns-clause-tiles c =
    let paint = c.args.self.now in
    let planes = c.self.inside.planes.items in
    let same = ap (λ (p : Paint). p.planes) c.self.view_is in
    let below : c.from.result < length planes = omega (arith, ap length same) in
    subst (λ (kinds : Square → ℕ). AreTilesIn kinds c.args.area c.in_ok-tiles.tiles.items)
    (plane_seen paint planes c.from.result c.args.plane c.index.result.now same c.from.ensures below c.index.ensures) c.in_ok-tiles.ensures.tiles
