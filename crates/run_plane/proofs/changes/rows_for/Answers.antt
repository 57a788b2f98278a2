use Rattle.run_plane.proofs.Common.{take, All-In, IsSmall, edge}
use Rattle.run_plane.proofs.BandLaws.{rising_found}
use Rattle.run_plane.proofs.SettingLaws.{rows_set}
use Rattle.run_plane.proofs.changes.rows_for.Goals as goal

pub set_piece-requires-clause-rising : goal.set_piece-requires-clause-rising
set_piece-requires-clause-rising c =
    let heights = c.args.heights.now in
    rising_found c.args.rows.now (take c.loop-piece.piece-index c.args.pieces.now) edge heights c.loop-piece.found.items c.loop-piece.invariant c.requires.above
    (λ height here. All-In IsSmall heights height c.requires.small here)

pub loop-piece-preserved : goal.loop-piece-preserved
loop-piece-preserved c =
    rows_set c.args.rows.now c.args.pieces.now c.loop-piece.piece-index c.loop-piece-test.true c.requires.apart c.args.heights.now
    c.loop-piece.found.items c.set_piece.new.found.items c.loop-piece.invariant c.in_ok-set_piece.ensures
