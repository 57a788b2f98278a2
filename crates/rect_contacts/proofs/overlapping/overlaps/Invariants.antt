use Rattle.rect_contacts.proofs.Common.{take, int_cmp, get, AreEvents}
use Rattle.rect_contacts.proofs.CommonSweep.{Swept}
use Rattle.rect_contacts.proofs.overlapping.overlaps.Given as goal

abbrev pub invariant-loop-event : goal.invariant-loop-event
invariant-loop-event l = record {
  are : AreEvents l.first l.second l.event-items;
  swept : Swept l.first l.second (take l.event-index l.event-items) (get int_cmp l.firsts) (get int_cmp l.seconds) l.pairs.items;
}
