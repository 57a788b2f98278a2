use Rattle.square_sets.proofs.Common.{rect_is, upright_core}
use Rattle.square_sets.proofs.BoundLaws.{bound_less, bound_more, bound_same, bounds_held}
use Rattle.square_sets.proofs.reaches.upright_core.Goals as goal

pub returns : goal.returns
returns c =
    let area = c.args.area.now in
    let held = bounds_held area c.requires.proper c.requires.bounded in
    rect_is _ (upright_core c.args.low c.args.high area)
    (bound_same area.ylo held.1)
    (bound_more area.xlo c.args.low held.0 c.requires.low)
    (bound_same area.yhi held.3)
    (bound_less area.xhi c.args.high held.2 c.requires.high)
