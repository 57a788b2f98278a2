use Rattle.measures.proofs.Common.{◌≡◌, pos, ◌∷◌, [], take, get_or, ◌∙◌, ap, to_z, of_z, w64, to_z-of_z, class_of, Contact, shared_amounts}
use Rattle.std.proofs.Common.{rules}
use Rattle.std.proofs.lemmas.List.{take_more}
use Rattle.flood_nodes.specs.TileShares.{tile_at}
use Rattle.measures.specs.steps.Sizes.{shared_in}
use Rattle.measures.proofs.AmountLaws.{shared_amounts-append, adds_two}
use Rattle.measures.proofs.columns.push_shared.Goals as goal

abbrev no_contact : Contact
no_contact = record { first = 0; second = 0; length = pos 0 }

pub loop-contact-preserved : goal.loop-contact-preserved
loop-contact-preserved c =
    let contains = (class_of c.args.class.now).contains in
    let tiles = c.args.tiles.now in
    let contacts = c.args.contacts.now in
    let i = c.loop-contact.contact-index in
    let contact : Contact = get_or contacts i no_contact in
    let more = ap (shared_amounts contains tiles) (take_more contacts i no_contact c.loop-contact-test.true)
    ∙ shared_amounts-append contains tiles (take i contacts) (contact ∷ []) in
    let length : to_z w64 (of_z w64 contact.length) ≡ contact.length = to_z-of_z w64 contact.length (search rules) in
    let value : to_z w64 (of_z w64 c.shared_in-value.result) ≡ shared_in contains (tile_at tiles contact.first) (tile_at tiles contact.second) contact.length =
    to_z-of_z w64 c.shared_in-value.result (search rules) ∙ rw length at c.shared_in-value.ensures in
    adds_two _ _ _ _ _ _ _ _ (rw value at c.in_ok-push.ensures.items) (rw value at c.in_ok-push-2.ensures.items) c.loop-contact.invariant more
