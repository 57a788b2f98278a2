use Rattle.std.proofs.Common.{◌≡◌}
use Rattle.geometry_tests.proofs.paint_tests.lists_are_painted.Given as goal

abbrev pub invariant-loop-name : goal.invariant-loop-name
invariant-loop-name l = record {
  cell : l.cell.kinds ≡ l.tech.types;
  other : l.other.kinds ≡ l.tech.types;
}
