use Rattle.square_sets.proofs.Common.{rect_is, grown}
use Rattle.square_sets.proofs.BoundLaws.{bound_less, bound_more, bounds_held, within_plane}
use Rattle.square_sets.proofs.reaches.grown.Goals as goal

pub returns : goal.returns
returns c =
    let area = c.args.area.now in
    let held = bounds_held area c.requires.proper (within_plane area c.requires.bounded) in
    rect_is _ (grown c.args.low c.args.high area)
    (bound_less area.xlo c.args.low held.0 c.requires.low)
    (bound_less area.ylo c.args.low held.1 c.requires.low)
    (bound_more area.xhi c.args.high held.2 c.requires.high)
    (bound_more area.yhi c.args.high held.3 c.requires.high)
