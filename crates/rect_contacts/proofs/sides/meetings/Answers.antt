-- Each iteration is done with the first side left of one list.
use Rattle.rect_contacts.proofs.Common.{refl, arith, false≢true}
use Rattle.rect_contacts.proofs.Sweep.{lower_turn, upper_turn}
use Rattle.rect_contacts.proofs.sides.meetings.Goals as goal

pub loop-below-preserved-then-reaches_no_farther : goal.loop-below-preserved-then-reaches_no_farther
loop-below-preserved-then-reaches_no_farther c =
    lower_turn c.args.lowers.now c.args.uppers.now c.requires.opposite c.requires.lowers_in_order.ascending c.requires.uppers_in_order.ascending
    c.loop-below.below c.loop-below.above _ c.loop-below.contacts.items c.note_contact.new.contacts.items
    (omega arith) (omega arith) c.in_ok-note_contact.ensures c.loop-below.invariant (c.if-reaches_no_farther.ensures.0 refl)

pub loop-below-preserved : goal.loop-below-preserved
loop-below-preserved c =
    upper_turn c.args.lowers.now c.args.uppers.now c.requires.opposite c.requires.lowers_in_order.ascending c.requires.uppers_in_order.ascending
    c.loop-below.below c.loop-below.above _ c.loop-below.contacts.items c.note_contact.new.contacts.items
    (omega arith) (omega arith) c.in_ok-note_contact.ensures c.loop-below.invariant (λ r. false≢true (c.if-reaches_no_farther.ensures.1 r))
