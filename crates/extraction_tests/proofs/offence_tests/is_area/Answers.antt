use Rattle.std.proofs.Common.{arith}
use Rattle.std.proofs.lemmas.Int.{ints}
use Rattle.extraction_tests.proofs.offence_tests.is_area.Goals as goal

pub returns-then-area-lt1000-clause-near : goal.returns-then-area-lt1000-clause-near
returns-then-area-lt1000-clause-near c = λ t. record {
  xlo = (grind (arith, ints), grind (arith, ints));
  ylo = (grind (arith, ints), grind (arith, ints));
  xhi = (grind (arith, ints), grind (arith, ints));
  yhi = (grind (arith, ints), grind (arith, ints));
}
