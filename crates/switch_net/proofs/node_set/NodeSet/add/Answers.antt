use Rattle.switch_net.proofs.Lent.{refill-set}
use Rattle.switch_net.proofs.Listing.{has_room, added}
use Rattle.switch_net.proofs.node_set.NodeSet.add.Goals as goal
use Rattle.switch_net.proofs.Common.{true}

pub bounds-items_mut-self : goal.bounds-items_mut-self
bounds-items_mut-self c =
    rw c.items_mut-then-not-items-node.ensures.value
    (has_room c.args.self.now.inside c.args.self.now.order c.args.self.now.count c.args.node c.args.self.now.listed c.requires
    (rw c.items.ensures at c.if-not-items-node.true))

pub invariant_of-self : goal.invariant_of-self
invariant_of-self c =
    let inside = refill-set c.args.self.now.inside c.items_mut.result.now c.args.node true c.items_mut.ensures.value in
    let order = refill-set c.args.self.now.order c.items_mut-then-not-items-node.result.now c.args.self.now.count c.args.node
    c.items_mut-then-not-items-node.ensures.value in
    rw (inside, order)
    (record {
      listed = added c.args.self.now.inside c.args.self.now.order c.args.self.now.count c.args.node c.args.self.now.listed c.requires
          (rw c.items.ensures at c.if-not-items-node.true);
    })
