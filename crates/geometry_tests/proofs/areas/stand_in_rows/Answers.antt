use Rattle.std.proofs.Common.{arith}
use Rattle.geometry_tests.proofs.Rows.{disjoint_in_rows}
use Rattle.geometry_tests.proofs.areas.stand_in_rows.Goals as goal

pub returns : goal.returns
returns c = λ t. disjoint_in_rows c.args.rects.now c.requires (λ k d below. c.loop-place.invariant k d (omega arith))
