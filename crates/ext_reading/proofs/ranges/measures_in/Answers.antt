use Rattle.ext_reading.proofs.LineSteps.{pair_step}
use Rattle.ext_reading.proofs.ranges.measures_in.Goals as goal

pub loop-area-preserved : goal.loop-area-preserved
loop-area-preserved c =
    pair_step c.loop-area.measures.items c.put.new.items.items c.args.numerals.now c.loop-area.left.now c.in-Some.behind.now c.in-Some-split_first.rest.now
    c.in-Some.area c.in-Some-split_first.perimeter c.in_ok-measure.measure c.loop-area.invariant c.in-Some.ensures
    c.in-Some-split_first.ensures c.in_ok-measure.ensures c.in_ok-put.ensures
