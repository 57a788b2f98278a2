use Rattle.offences.proofs.Common.{◌≡◌, pos, get_or, take, sym, ap, ◌∙◌, ◌++◌, List, Rect, Contact, TypedStack, changed, changed_pieces}
use Rattle.offences.proofs.Common.{typed_stack_at, no_typed_stack}
use Rattle.std.proofs.lemmas.List.{append_assoc, get_or_read}
use Rattle.offences.proofs.PieceLaws.{changed_more}
use Rattle.offences.proofs.changes.changed_pieces.Goals as goal

abbrev no_contact : Contact
no_contact = record { first = 0; second = 0; length = pos 0 }

pub loop-contact-preserved : goal.loop-contact-preserved
loop-contact-preserved c =
    let raw = c.args.raw.now in
    let typed_stacks = c.args.typed_stacks.now in
    let contacts = c.args.contacts.now in
    let i = c.loop-contact.contact-index in
    let less = c.loop-contact-test.true in
    let contact : Contact = get_or contacts i no_contact in
    let within = c.requires.within i no_contact less in
    let first = c.index-typed_stacks-contact.result in
    let second = c.index-typed_stacks-contact-in-loop-contact.result in
    let is_first : first ≡ typed_stack_at typed_stacks contact.first =
    get_or_read typed_stacks contact.first first within.0 c.index-typed_stacks-contact.is no_typed_stack in
    let is_second : second ≡ typed_stack_at typed_stacks contact.second =
    get_or_read typed_stacks contact.second second within.1 c.index-typed_stacks-contact-in-loop-contact.is no_typed_stack in
    let before = changed_pieces raw typed_stacks (take i contacts) in
    let one : c.push_changed.new.pieces.items ≡ c.loop-contact.pieces.items ++ changed raw first second = c.in_ok-push_changed.ensures in
    let two : c.push_changed-in-loop-contact.new.pieces.items
    ≡ c.push_changed.new.pieces.items ++ changed raw second first = c.in_ok-push_changed-2.ensures in
    two
    ∙ ap (λ (l : List Rect). l ++ changed raw second first) (one ∙ ap (λ (l : List Rect). l ++ changed raw first second) c.loop-contact.invariant)
    ∙ append_assoc before (changed raw first second) (changed raw second first)
    ∙ ap (λ (s : TypedStack). before ++ (changed raw s second ++ changed raw second s)) is_first
    ∙ ap (λ (s : TypedStack). before ++ (changed raw (typed_stack_at typed_stacks contact.first) s ++ changed raw s
    (typed_stack_at typed_stacks contact.first))) is_second
    ∙ sym (changed_more raw typed_stacks contacts i no_contact less)
