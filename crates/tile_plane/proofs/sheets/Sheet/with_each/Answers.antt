use Rattle.tile_plane.proofs.Common.{get_or_default, value_at}
use Rattle.tile_plane.proofs.SheetLaws.{plane_after_piece, set_next}
use Rattle.tile_plane.proofs.sheets.Sheet.with_each.Goals as goal

pub loop-piece-preserved : goal.loop-piece-preserved
loop-piece-preserved c =
    let old = c.loop-piece.self.store in
    let new = c.set_piece.new.store in
    let pieces = c.args.pieces.now in
    let index = c.loop-piece.piece-index in
    let below = c.loop-piece-test.true in
    let done = c.in-Ok.ensures in (
      record {
        plane = plane_after_piece old new _ c.loop-piece.invariant.0.plane (c.requires.settable.near index _ below) done.partition done.stitches done.strips
            done.set;
        taken = done.taken;
      },
      set_next (value_at c.args.self.store) (value_at old) (value_at new) pieces index _ below (get_or_default pieces index _ _ below) c.requires.settable.apart
          c.loop-piece.invariant.1 done.set,
    )
