use Rattle.rect_contacts.proofs.Common.{◌≡◌, rules, arith, to_z, of_z, w64, int_cmp, get, ints, to_z-of_z}
use Rattle.rect_contacts.proofs.RowLaws.{finds_next, finds_last, finds_all}
use Rattle.rect_contacts.proofs.actives.add_met.Goals as goal

pub loop-to-preserved : goal.loop-to-preserved
loop-to-preserved c =
    let row = get int_cmp c.args.others.now in
    let to : to_z w64 (of_z w64 c.in-Some.to) ≡ c.in-Some.to = to_z-of_z w64 c.in-Some.to (search rules) in
    let first = c.in-Some.ensures.some in
    let small = c.requires.actives.small c.in-Some.to c.in-Some.active first.there in
    rw to (record {
      small = small;
      found = finds_next c.args.event.now row _ c.in-Some.to c.in-Some.active first _ _ _ c.requires.actives (omega (arith, ints, c.if-event-active.false))
          c.loop-to.invariant.found (rw c.pair_of.ensures at c.in_ok-push.ensures.items);
    })

pub returns-then-event-active : goal.returns-then-event-active
returns-then-event-active c =
    finds_last c.args.event.now (get int_cmp c.args.others.now) _ c.in-Some.to c.in-Some.active c.in-Some.ensures.some _ _ c.requires.actives
    (omega (arith, ints, c.if-event-active.true)) c.loop-to.invariant.found

pub returns-in_default : goal.returns-in_default
returns-in_default c = finds_all c.args.event.now (get int_cmp c.args.others.now) _ _ _ c.in_default.ensures.none c.loop-to.invariant.found
