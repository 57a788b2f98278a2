use Rattle.tile_plane.proofs.Common.{arith, ints, LiesWithin, plane_range, value_at, IsBanded}
use Rattle.tile_plane.proofs.AgainLaws.{strips_again}
use Rattle.tile_plane.proofs.PieceLaws.{banded_after, set_before}
use Rattle.tile_plane.proofs.pieces.set_piece.Goals as goal

pub returns-clause-strips : goal.returns-clause-strips
returns-clause-strips c =
    let piece = c.args.piece.now in
    let old = c.args.store.now in
    let cut = c.cut_around.new.store in
    let set = c.set_bands.new.store in
    let made = c.in_ok-first.ensures in
    let bands = c.in_ok-band.ensures in
    let joined = c.join_columns-id.ensures in
    let near = c.requires.near in
    let x = near.xlo in
    let x' = near.xhi in
    let y = near.ylo in
    let y' = near.yhi in
    let inside : LiesWithin piece.area plane_range = omega (arith, ints) in
    let banded : IsBanded piece old set = banded_after piece old cut set made.same made.kept bands.banded in
    strips_again piece old set c.requires.partition bands.partition c.requires.strips banded inside c.join_columns-id.new.store c.requires.proper
    joined.partition joined.grown joined.tall

pub returns-clause-set : goal.returns-clause-set
returns-clause-set c =
    let piece = c.args.piece.now in
    let old = c.args.store.now in
    let cut = c.cut_around.new.store in
    let set = c.set_bands.new.store in
    let made = c.in_ok-first.ensures in
    let banded : IsBanded piece old set = banded_after piece old cut set made.same made.kept c.in_ok-band.ensures.banded in
    set_before piece (value_at old) (value_at set) (value_at c.join_columns-id.new.store) banded.set c.join_columns-id.ensures.same
