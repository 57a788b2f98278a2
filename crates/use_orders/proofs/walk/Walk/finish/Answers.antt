use Rattle.use_orders.proofs.Common.{◌∙◌, reverse, WalkState, walk_state, with_open}
use Rattle.use_orders.proofs.Stepping.{later_then, later_popped}
use Rattle.use_orders.proofs.walk.Walk.finish.Goals as goal

pub open-preserved : goal.open-preserved
open-preserved g c =
    let children = g.G.UseGraph.children c.args.graph.now in
    let first = c.args.self.now.first in
    let before = walk_state c.args.self.now in
    let popped : WalkState = record {
      marks = c.open.self.marks.items;
      way = reverse c.pop.new.self.items;
      order = c.open.self.order.items;
      is_cyclic = c.open.self.is_cyclic;
    } in
    record {
      first = c.step.ensures.first ∙ c.open.invariant.first;
      later = later_then children first before (with_open c.in-Some.at popped) (walk_state c.step.new.self)
          (later_popped children first before c.open.self.marks.items c.open.self.path.items c.pop.new.self.items c.open.self.order.items
          c.open.self.is_cyclic c.in-Some.at c.in-Some.ensures.items c.open.invariant.later)
          (rw c.open.invariant.first at c.in_ok-step.ensures.later);
    }
