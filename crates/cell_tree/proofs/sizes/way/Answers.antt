use Rattle.cell_tree.proofs.SpreadLaws.{way_fits}
use Rattle.cell_tree.proofs.sizes.way.Goals as goal

pub overflow_mul-result : goal.overflow_mul-result
overflow_mul-result c =
    (way_fits c.abs_diff.result c.args.from c.args.to c.args.step c.abs_diff.ensures c.requires.few c.ranges.from c.ranges.to c.ranges.step
    c.requires.step).fits

pub returns-clause-way : goal.returns-clause-way
returns-clause-way c =
    (way_fits c.abs_diff.result c.args.from c.args.to c.args.step c.abs_diff.ensures c.requires.few c.ranges.from c.ranges.to c.ranges.step c.requires.step).way

pub returns-clause-low : goal.returns-clause-low
returns-clause-low c =
    (way_fits c.abs_diff.result c.args.from c.args.to c.args.step c.abs_diff.ensures c.requires.few c.ranges.from c.ranges.to c.ranges.step c.requires.step).low

pub returns-clause-high : goal.returns-clause-high
returns-clause-high c =
    (way_fits c.abs_diff.result c.args.from c.args.to c.args.step c.abs_diff.ensures c.requires.few c.ranges.from c.ranges.to c.ranges.step
    c.requires.step).high
