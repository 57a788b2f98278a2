use Rattle.std.proofs.Common.{◌≡◌}
use Rattle.geometry_tests.proofs.paint_tests.take_in_turn.Given as goal

abbrev pub invariant-loop-area : goal.invariant-loop-area
invariant-loop-area l = l.cell.kinds ≡ l.tech.types
