use Rattle.measures.proofs.Common.{arith, ints}
use Rattle.measures.proofs.sizes.perimeter_of.Goals as goal

pub returns : goal.returns
returns c = omega (arith, ints)
