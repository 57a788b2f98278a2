use Rattle.fet_regions.proofs.Common.{◌≡◌, pos, get_or, rules, to_z, of_z, w64, to_z-of_z, Contact, terminal_in}
use Rattle.fet_regions.proofs.ContactLaws.{parts_more}
use Rattle.fet_regions.proofs.lengths.parts_of.Goals as goal

abbrev no_contact : Contact
no_contact = record { first = 0; second = 0; length = pos 0 }

pub loop-contact-preserved : goal.loop-contact-preserved
loop-contact-preserved c =
    let contacts = c.args.contacts.now in
    let i = c.loop-contact.contact-index in
    let contact : Contact = get_or contacts i no_contact in
    let edge : to_z w64 (of_z w64 contact.length) ≡ contact.length = to_z-of_z w64 contact.length (search rules) in
    parts_more (terminal_in c.args.roles.now) c.args.tiles.now c.args.labels.now contacts i no_contact
    c.loop-contact.parts.items c.push_part.new.parts.items c.push_part-in-loop-contact.new.parts.items c.loop-contact-test.true c.loop-contact.invariant
    (rw edge at c.in_ok-push_part.ensures) (rw edge at c.in_ok-push_part-2.ensures)
