use Rattle.std.proofs.Common.{◌≡◌, length}
use Rattle.extraction_tests.proofs.naming_tests.painted.Given as goal

abbrev pub invariant-loop-name : goal.invariant-loop-name
invariant-loop-name l = record {
  kinds : l.cell.kinds ≡ l.tech.types;
  planes : length l.cell.planes ≡ length l.tech.planes;
}
