use Rattle.use_orders.proofs.Common.{arith, inl, inr}
use Rattle.use_orders.proofs.Lesser.{is_found, finds}
use Rattle.use_orders.proofs.Users.{used_by-lists}
use Rattle.use_orders.proofs.own_descendants.is_ring.Goals as goal

pub returns-else-group-gt1 : goal.returns-else-group-gt1
returns-else-group-gt1 c =
    let users = used_by-lists c.args.users.now c.args.cell c.index-users-cell.result c.requires c.index-users-cell.is in
    let found = rw c.deref.ensures.value at c.contains.ensures.value in (
      (λ yes. inr (rw users (is_found c.index-users-cell.result.items c.args.cell c.contains.result found yes))),
      (λ ring. elim ring [
        | inl many ↦ absurd (omega arith)
        | inr self ↦ finds c.index-users-cell.result.items c.args.cell c.contains.result found (rw users at self)
      ]),
    )
