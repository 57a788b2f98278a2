use Rattle.cell_library.proofs.Common.{List, sym, subst, In-get_or, Piece, AreTilesIn, kinds_on, layout_of}
use Rattle.geo_core.proofs.TileSets.{tile_inside}
use Rattle.cell_bodies.proofs.CellPaint.AreaLaws.{near_within}
use Rattle.cell_library.proofs.visiting.add_plane.Goals as goal

pub tile_of-requires-clause-near : goal.tile_of-requires-clause-near
tile_of-requires-clause-near c =
    let values = kinds_on (layout_of c.args.paint.now) c.args.plane in
    let are : AreTilesIn values c.args.near c.deref-piece-items.result.now =
    subst (λ (pieces : List Piece). AreTilesIn values c.args.near pieces) (sym c.deref-piece-items.ensures.value) c.in-Ok.ensures.tiles in
    let is = are.each _ (In-get_or c.deref-piece-items.result.now c.loop-piece.piece-index _ c.loop-piece-test.true) in
    near_within _ c.args.near c.requires.near is.meets (tile_inside values c.args.near _ is)
