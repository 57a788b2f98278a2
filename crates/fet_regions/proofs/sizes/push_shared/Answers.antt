use Rattle.fet_regions.proofs.Common.{◌≡◌, ◌++◌, [], pos, Bool, cond, get_or, sym, ◌∙◌, ap, rules, to_z, of_z, Vec, Global, w64, slice_index}
use Rattle.fet_regions.proofs.Common.{to_z-of_z, append-nil, Amount, Contact}
use Rattle.fet_regions.specs.steps.Sizes.{taken_off}
use Rattle.fet_regions.proofs.ContactLaws.{shared_more}
use Rattle.fet_regions.proofs.sizes.push_shared.Goals as goal
use Rattle.fet_regions.proofs.sizes.push_shared.Goals.{then-eq+in_ok-push_both, else-eq}

abbrev no_contact : Contact
no_contact = record { first = 0; second = 0; length = pos 0 }

pub loop-contact-preserved : goal.loop-contact-preserved
loop-contact-preserved c =
    let tiles = c.args.tiles.now in
    let labels = c.args.labels.now in
    let contacts = c.args.contacts.now in
    let i = c.loop-contact.contact-index in
    let contact : Contact = get_or contacts i no_contact in
    let before = c.loop-contact.amounts.items in
    let off = taken_off (slice_index labels contact.first) (slice_index labels contact.second) contact.length in
    let more = shared_more tiles labels contacts i no_contact c.args.amounts.now.items before c.if-eq.amounts.items c.loop-contact-test.true
    c.loop-contact.invariant in
    let edge : to_z w64 (of_z w64 contact.length) ≡ contact.length = to_z-of_z w64 contact.length (search rules) in
    elim c.if-eq.branch [
      | then-eq+in_ok-push_both w ↦ more (ap (λ (v : Vec Amount Global). v.items) w.amounts-is ∙ (rw edge at w.in_ok-push_both.ensures)
          ∙ ap (λ (t : Bool). before ++ cond t off []) (sym (sym c.eq.ensures ∙ w.if-eq.true)))
      | else-eq w ↦ more (ap (λ (v : Vec Amount Global). v.items) w.amounts-is ∙ sym (append-nil before)
          ∙ ap (λ (t : Bool). before ++ cond t off []) (sym (sym c.eq.ensures ∙ w.if-eq.false)))
    ]
