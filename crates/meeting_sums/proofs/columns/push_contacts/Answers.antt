use Rattle.meeting_sums.proofs.Common.{◌≡◌, pos, ℤ, to_z, of_z, get_or, ap, refl, rules, w64, get_or_default, Contact, class_of, PlaneStack}
use Rattle.meeting_sums.proofs.Common.{no_piece}
use Rattle.std.proofs.lemmas.Int.{to_z-of_z}
use Rattle.meeting_sums.proofs.StackLaws.{contact_adds}
use Rattle.meeting_sums.proofs.columns.push_contacts.Goals as goal

-- a contact that stands for none
abbrev no_contact : Contact
no_contact = record { first = 0; second = 0; length = pos 0 }

pub loop-contact-preserved : goal.loop-contact-preserved
loop-contact-preserved c =
    let contacts = c.args.contacts.now in
    let i = c.loop-contact.contact-index in
    let below = c.loop-contact-test.true in
    let length : ℤ = (get_or contacts i no_contact).length in
    let here : to_z w64 (of_z w64 length) ≡ length = to_z-of_z w64 length (search rules) in
    let stacks = c.args.stacks.now in
    let contact = get_or contacts i no_contact in
    let inside = c.requires.within i no_contact below in
    let first = get_or stacks contact.first c.index-stacks-first.result in
    let second = get_or stacks contact.second c.index-stacks-second.result in
    contact_adds (class_of c.args.class.now).contains stacks c.args.groups.now contacts i no_contact first.stack second.stack length
    c.args.amounts.now.items c.loop-contact.amounts.items c.push_contact.new.amounts.items inside c.requires.one_each below
    (ap (λ (p : PlaneStack). p.stack) (get_or_default stacks contact.first c.index-stacks-first.result no_piece inside.0))
    (ap (λ (p : PlaneStack). p.stack) (get_or_default stacks contact.second c.index-stacks-second.result no_piece inside.1))
    refl c.loop-contact.invariant (rw here at c.in_ok-push_contact.ensures)
