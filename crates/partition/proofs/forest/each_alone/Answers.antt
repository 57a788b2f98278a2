use Rattle.std.proofs.Common.{refl, arith}
use Rattle.std.proofs.lemmas.Iterator.{YieldsList-from_range, items_from_collect}
use Rattle.partition.specs.Leaders.{numbers_below}
use Rattle.partition.proofs.forest.each_alone.Goals as goal

pub returns : goal.returns
unfolding numbers_below
returns c = items_from_collect _ c.collect.ensures.ran (YieldsList-from_range 0 c.args.count c.args.count refl (omega arith))
