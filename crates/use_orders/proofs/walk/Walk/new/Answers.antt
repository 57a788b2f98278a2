use Rattle.use_orders.proofs.Common.{refl}
use Rattle.use_orders.proofs.Starting.{starts_at_rest, starts_thorough}
use Rattle.use_orders.proofs.walk.Walk.new.Goals as goal

pub returns-clause-rest : goal.returns-clause-rest
returns-clause-rest c = λ children len.
    rw (c.in_ok-first_marks.ensures, c.new.ensures.items, c.new-2.ensures.items)
    (refl, starts_at_rest c.args.first c.args.count children len c.requires)

pub returns-clause-thorough : goal.returns-clause-thorough
returns-clause-thorough c = λ children.
    rw (c.in_ok-first_marks.ensures, c.new.ensures.items, c.new-2.ensures.items) (starts_thorough c.args.first c.args.count children)
