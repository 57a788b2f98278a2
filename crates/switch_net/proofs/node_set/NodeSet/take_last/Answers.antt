use Rattle.switch_net.proofs.Common.{◌-◌, false, refl, slice_index_or}
use Rattle.switch_net.proofs.Lent.{refill-set}
use Rattle.switch_net.proofs.Listing.{taken_from}
use Rattle.switch_net.proofs.node_set.NodeSet.take_last.Goals as goal

pub invariant_of-self : goal.invariant_of-self
invariant_of-self c =
    let inside = refill-set c.args.self.now.inside c.items_mut.result.now (slice_index_or c.items.result.now (c.args.self.now.count - 1) 0) false
    c.items_mut.ensures.value in
    rw inside (record {
      listed = taken_from c.args.self.now.inside c.args.self.now.order c.args.self.now.count
          (slice_index_or c.items.result.now (c.args.self.now.count - 1) 0) c.requires c.args.self.now.listed (rw c.items.ensures refl);
    })
