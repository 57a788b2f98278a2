-- The sweep before the first event, one event more, and after the last.
use Rattle.rect_contacts.proofs.Common.{pos, false, List, get_or, sym, ap, subst, int_cmp, get, In-get_or, Event, AreEvents}
use Rattle.std.proofs.Common.{take_all}
use Rattle.std.specs.BTreeMap.{is_at}
use Rattle.std.specs.Map.{lookup}
use Rattle.rect_contacts.proofs.CommonSweep.{AreLists, Swept, lists_are, event_small, first_actives, second_actives, swept_first, swept_second, swept_none}
use Rattle.rect_contacts.proofs.CommonSweep.{swept_all}
use Rattle.rect_contacts.proofs.overlapping.overlaps.Goals as goal
use Rattle.rect_contacts.proofs.overlapping.overlaps.Goals.{then-event+in_ok-turn, else-event+in_ok-turn-2}

abbrev no_event : Event
no_event = record { line = pos 0; begins = false; of_second = false; owner = 0; from = pos 0; to = pos 0 }

pub loop-event-init : goal.loop-event-init
loop-event-init c = record {
  are = subst (AreEvents c.args.first.now c.args.second.now) (sym c.deref-event-items.ensures.value) c.in_ok-events.ensures;
  swept = rw c.new-pairs.ensures.items (swept_none c.args.first.now c.args.second.now (get int_cmp c.new-firsts.result) (get int_cmp c.new-seconds.result)
      (λ a. ap (λ v. lookup (is_at (int_cmp a)) v) c.new-firsts.ensures.empty) (λ a. ap (λ v. lookup (is_at (int_cmp a)) v) c.new-seconds.ensures.empty));
}

pub turn-requires-clause-from : goal.turn-requires-clause-from
turn-requires-clause-from c =
    let items = c.deref-event-items.result.now in
    event_small c.args.first.now c.args.second.now _ (lists_are c.args.first.now c.args.second.now c.requires.first_proper c.requires.first_near
    c.requires.first_disjoint c.requires.second_proper c.requires.second_near c.requires.second_disjoint)
    (c.loop-event.invariant.are.each (get_or items c.loop-event.event-index no_event) (In-get_or items c.loop-event.event-index no_event
    c.loop-event-test.true))

pub turn-requires-else-event-clause-from : goal.turn-requires-else-event-clause-from
turn-requires-else-event-clause-from c =
    let items = c.deref-event-items.result.now in
    event_small c.args.first.now c.args.second.now _ (lists_are c.args.first.now c.args.second.now c.requires.first_proper c.requires.first_near
    c.requires.first_disjoint c.requires.second_proper c.requires.second_near c.requires.second_disjoint)
    (c.loop-event.invariant.are.each (get_or items c.loop-event.event-index no_event) (In-get_or items c.loop-event.event-index no_event
    c.loop-event-test.true))

pub turn-requires-clause-actives : goal.turn-requires-clause-actives
turn-requires-clause-actives c =
    first_actives c.args.first.now c.args.second.now (lists_are c.args.first.now c.args.second.now c.requires.first_proper c.requires.first_near
    c.requires.first_disjoint c.requires.second_proper c.requires.second_near c.requires.second_disjoint) c.deref-event-items.result.now
    c.loop-event.invariant.are c.loop-event.event-index no_event c.loop-event-test.true (get int_cmp c.loop-event.firsts) (get int_cmp c.loop-event.seconds)
    c.loop-event.pairs.items c.loop-event.invariant.swept c.if-event.true

pub turn-requires-else-event-clause-actives : goal.turn-requires-else-event-clause-actives
turn-requires-else-event-clause-actives c =
    second_actives c.args.first.now c.args.second.now (lists_are c.args.first.now c.args.second.now c.requires.first_proper c.requires.first_near
    c.requires.first_disjoint c.requires.second_proper c.requires.second_near c.requires.second_disjoint) c.deref-event-items.result.now
    c.loop-event.invariant.are c.loop-event.event-index no_event c.loop-event-test.true (get int_cmp c.loop-event.firsts) (get int_cmp c.loop-event.seconds)
    c.loop-event.pairs.items c.loop-event.invariant.swept c.if-event.false

pub loop-event-preserved : goal.loop-event-preserved
loop-event-preserved c =
    let lists : AreLists c.args.first.now c.args.second.now = lists_are c.args.first.now c.args.second.now c.requires.first_proper c.requires.first_near
    c.requires.first_disjoint c.requires.second_proper c.requires.second_near c.requires.second_disjoint in
    let items = c.deref-event-items.result.now in
    record {
      are = c.loop-event.invariant.are;
      swept = elim c.if-event.branch [
        | then-event+in_ok-turn w ↦ rw (w.firsts-is, w.seconds-is, w.pairs-is) (swept_second c.args.first.now c.args.second.now lists items
            c.loop-event.invariant.are c.loop-event.event-index no_event c.loop-event-test.true (get int_cmp c.loop-event.firsts)
            (get int_cmp c.loop-event.seconds) c.loop-event.pairs.items c.loop-event.invariant.swept _ _ w.if-event.true w.in_ok-turn.ensures)
        | else-event+in_ok-turn-2 w ↦ rw (w.firsts-is, w.seconds-is, w.pairs-is) (swept_first c.args.first.now c.args.second.now lists items
            c.loop-event.invariant.are c.loop-event.event-index no_event c.loop-event-test.true (get int_cmp c.loop-event.firsts)
            (get int_cmp c.loop-event.seconds) c.loop-event.pairs.items c.loop-event.invariant.swept _ _ w.if-event.false w.in_ok-turn-2.ensures)
      ];
    }

pub returns : goal.returns
returns c =
    let items = c.deref-event-items.result.now in
    swept_all c.args.first.now c.args.second.now items (get int_cmp c.loop-event.firsts) (get int_cmp c.loop-event.seconds) c.loop-event.pairs.items
    c.loop-event.invariant.are
    (subst (λ (v : List Event). Swept c.args.first.now c.args.second.now v (get int_cmp c.loop-event.firsts) (get int_cmp c.loop-event.seconds)
    c.loop-event.pairs.items) (take_all c.loop-event.event-index items c.loop-event-test.false) c.loop-event.invariant.swept)
