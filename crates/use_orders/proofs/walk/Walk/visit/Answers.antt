use Rattle.use_orders.proofs.Common.{on_ok_weaker, walk_state}
use Rattle.use_orders.proofs.Stepping.{has_visited}
use Rattle.use_orders.proofs.walk.Walk.visit.Goals as goal

pub returns-clause-visited : goal.returns-clause-visited
returns-clause-visited g c =
    on_ok_weaker c.finish.result
    (λ done. has_visited (g.G.UseGraph.children c.args.graph.now) c.args.self.now.first c.args.root (walk_state c.args.self.now) (walk_state c.meet.new.self)
    (walk_state c.finish.new.self) c.requires.root c.requires.rest c.in_ok-meet.ensures.state done.0 done.1)
    (rw c.meet.ensures.first at c.finish.ensures.later)
