use Rattle.cell_nodes.proofs.NumberLaws.{region_more}
use Rattle.cell_nodes.proofs.groups.number_regions.Goals as goal

pub loop-region-preserved : goal.loop-region-preserved
loop-region-preserved c =
    region_more c.args.regions.now c.args.number c.loop-region.region-index c.args.numbers.now c.loop-region.numbers
    c.loop-region-test.true c.loop-region.auto.numbers (c.requires c.loop-region.region-index 0 c.loop-region-test.true) c.loop-region.invariant
