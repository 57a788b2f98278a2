use Rattle.rect_contacts.proofs.Common.{◌≡◌, ◌++◌, drop, events_from}
use Rattle.rect_contacts.proofs.events.add_events.Given as goal

abbrev pub invariant-loop-owner : goal.invariant-loop-owner
invariant-loop-owner l =
    l.events.items ++ events_from l.of_second l.owner (drop l.owner l.rects) ≡ l.initial.events.items ++ events_from l.of_second 0 l.rects
