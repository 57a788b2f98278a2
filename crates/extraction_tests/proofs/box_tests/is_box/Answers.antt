use Rattle.std.proofs.Common.{arith}
use Rattle.std.proofs.lemmas.Int.{ints}
use Rattle.extraction_tests.proofs.box_tests.is_box.Goals as goal

pub returns-then-area-lt-EDGE : goal.returns-then-area-lt-EDGE
returns-then-area-lt-EDGE c = λ t. record {
  wide = grind (arith, ints);
  high = grind (arith, ints);
  near = record {
    xlo = (grind (arith, ints), grind (arith, ints));
    ylo = (grind (arith, ints), grind (arith, ints));
    xhi = (grind (arith, ints), grind (arith, ints));
    yhi = (grind (arith, ints), grind (arith, ints));
  };
}
