use Rattle.steady_state.proofs.Common.{arith, slice_index_or, Left, floors_in, IsOver, network_in}
use Rattle.steady_state.proofs.UnderWay.{total-le, take, finish, relaxed_up}
use Rattle.steady_state.proofs.spreading.drain.Goals as goal

pub visit-requires-clause-node : goal.visit-requires-clause-node
visit-requires-clause-node c = c.nodes.invariant.working.waits c.take_last-node.result c.take_last-node.ensures.was

pub visit-requires-clause-working : goal.visit-requires-clause-working
visit-requires-clause-working c =
    take (network_in c.args.net.now) c.args.pass.now.part.state.now c.args.pass.now.kind (IsOver c.args.pass.now) (floors_in c.args.pass.now.floor)
    c.nodes.best c.nodes.waiting.inside c.take_last-node.new.self.inside c.take_last-node.result
    c.nodes.invariant.working c.take_last-node.ensures.left c.take_last-node.ensures.kept

pub nodes-smaller : goal.nodes-smaller
nodes-smaller c =
    let most = total-le c.visit-in-nodes.new.best (λ v lt. let r = c.type_inv.best v in omega (arith, r)) in
    let a = c.visit.ensures.raised in
    let b = c.visit-in-nodes.ensures.raised in
    omega (arith, most, a.paid, a.risen, b.paid, b.risen, c.take_last-node.ensures.count)

pub nodes-preserved : goal.nodes-preserved
nodes-preserved c =
    let a = c.visit.ensures in
    let b = c.visit-in-nodes.ensures in
    record {
      fits = b.fits;
      working = finish (network_in c.args.net.now) c.args.pass.now.part.state.now c.args.pass.now.kind (IsOver c.args.pass.now)
          (floors_in c.args.pass.now.floor) c.visit-in-nodes.new.best c.visit-in-nodes.new.waiting.inside c.take_last-node.result b.working
          (λ k d lt is. relaxed_up c.args.pass.now.part.state.now c.args.pass.now.kind (IsOver c.args.pass.now) (floors_in c.args.pass.now.floor)
          c.visit.new.best c.visit-in-nodes.new.best Left (slice_index_or c.args.net.now.switches.now k d)
          (rw is b.same) b.raised.above (a.relaxed k d lt is)) b.relaxed;
      above = λ v. omega (arith, c.nodes.invariant.above v, a.raised.above v, b.raised.above v);
    }
