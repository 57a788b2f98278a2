use Rattle.std.proofs.Common.{arith}
use Rattle.std.proofs.lemmas.Int.{ints}
use Rattle.geometry_tests.proofs.areas.is_sound.Goals as goal

pub returns-then-area-lt-PLANE_EDGE-clause-near : goal.returns-then-area-lt-PLANE_EDGE-clause-near
returns-then-area-lt-PLANE_EDGE-clause-near c = λ t. record {
  xlo = (grind (arith, ints), grind (arith, ints));
  ylo = (grind (arith, ints), grind (arith, ints));
  xhi = (grind (arith, ints), grind (arith, ints));
  yhi = (grind (arith, ints), grind (arith, ints));
}
