-- The loops wrote the events of both lists, and the sort puts them in order.
use Rattle.rect_contacts.proofs.EventOrder.{sorted_events}
use Rattle.rect_contacts.proofs.events.events.Goals as goal

pub returns : goal.returns
returns c = sorted_events c.args.first.now c.args.second.now _ (rw (c.in_ok-add_events-2.ensures, c.in_ok-add_events.ensures, c.new-events.ensures.items) at
    c.sort_unstable.ensures.permutation) c.sort_unstable.ensures.sorted
