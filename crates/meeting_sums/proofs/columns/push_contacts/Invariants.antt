use Rattle.meeting_sums.proofs.Common.{pos, ◌-ℤ◌, take, In, sum_on, class_of, contact_counted, AddAmounts}
use Rattle.meeting_sums.proofs.columns.push_contacts.Given as goal

abbrev pub invariant-loop-contact : goal.invariant-loop-contact
invariant-loop-contact l =
    AddAmounts (λ key. In key l.groups)
    (λ key. pos 0 -ℤ sum_on (contact_counted (class_of l.class).contains l.stacks l.groups key) (take l.contact-index l.contacts))
    l.fn.amounts.items l.amounts.items
