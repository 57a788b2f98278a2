use Rattle.use_orders.proofs.Users.{lists_of-set}
use Rattle.use_orders.proofs.own_descendants.add_user.Goals as goal

pub returns : goal.returns
returns c =
    lists_of-set c.args.users.now.items c.args.cell c.args.user c.index_mut.result.now c.push.new.self c.requires c.index_mut.ensures.value
    c.in_ok-push.ensures.items
