use Rattle.std.proofs.Common.{◌≡◌, length}
use Rattle.extraction_tests.proofs.offence_tests.painted.Given as goal

abbrev pub invariant-loop-name : goal.invariant-loop-name
invariant-loop-name l = record {
  kinds : l.part.kinds ≡ l.tech.types;
  planes : length l.part.planes ≡ length l.tech.planes;
}
