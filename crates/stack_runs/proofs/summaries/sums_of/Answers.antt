use Rattle.std.proofs.Common.{arith}
use Rattle.stack_runs.specs.Summaries.{area_of, perimeter_of}
use Rattle.stack_runs.proofs.Growing.{sum_more}
use Rattle.stack_runs.proofs.summaries.sums_of.Goals as goal

pub loop-node-preserved : goal.loop-node-preserved
loop-node-preserved c =
    let before = c.loop-node.invariant in
    let added = c.in_ok-add_node.ensures in
    record {
      area = sum_more area_of c.args.nodes.now c.loop-node.node-index c.node-item.result c.loop-node.sums.area c.add_node.new.self.area (omega arith)
          c.node-item.is before.area added.area;
      perimeter = sum_more perimeter_of c.args.nodes.now c.loop-node.node-index c.node-item.result c.loop-node.sums.perimeter
          c.add_node.new.self.perimeter (omega arith) c.node-item.is before.perimeter added.perimeter;
    }
