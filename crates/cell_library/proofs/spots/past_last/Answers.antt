use Rattle.cell_library.proofs.Common.{◌-◌, arith, ints}
use Rattle.cell_library.proofs.GridSpots.{quotient_after}
use Rattle.cell_library.proofs.spots.past_last.Goals as goal

pub returns-else-high-le0 : goal.returns-else-high-le0
returns-else-high-le0 c = λ n before.
    quotient_after (c.unsigned_abs.result - 1) c.args.step n c.requires (omega
    (arith, ints, before, c.unsigned_abs.ensures.value, c.if-high-le0.false))
