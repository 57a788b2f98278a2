-- The contacts of both kinds together are all contacts.
use Rattle.rect_contacts.proofs.Common.{List, ◌++◌, sym, ◌∙◌, ap, subst, Lists, Contact, IsSharedEdge}
use Rattle.rect_contacts.proofs.Touches.{contacts_of_both}
use Rattle.rect_contacts.proofs.contacts.touching.Goals as goal

pub returns : goal.returns
returns c =
    let stacked = c.in_ok-contacts.contacts.items in
    let whole = c.in_ok-extend_from_slice.ensures.items ∙ ap (λ (more : List Contact). stacked ++ more) c.as_slice.ensures.value in
    subst (λ (all : List Contact). Lists (IsSharedEdge c.args.rects.now) all) (sym whole)
    (contacts_of_both c.args.rects.now stacked c.in_ok-side_by_side.side_by_side.items c.in_ok-contacts.ensures c.in_ok-side_by_side.ensures)
