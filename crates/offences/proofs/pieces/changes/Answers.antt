use Rattle.offences.proofs.Common.{◌≡◌, ◌<◌, List, length, sym, subst, ◌∙◌, Vec, Global, All, IfOk-weaker, Lists, Rect, IsNear, IsProper, Contact}
use Rattle.offences.proofs.Common.{IsSharedEdge, AreFoundChanges, of_contacts, changed_pieces, typed_stack_areas}
use Rattle.offences.proofs.PieceLaws.{all_areas, contacts_within}
use Rattle.offences.proofs.pieces.changes.Goals as goal

pub touching-requires-clause-proper : goal.touching-requires-clause-proper
touching-requires-clause-proper c =
    subst (All IsProper) (sym (c.as_slice.ensures.value ∙ c.in_ok-areas.ensures)) (all_areas IsProper c.args.typed_stacks.now c.requires.proper)

pub touching-requires-clause-near : goal.touching-requires-clause-near
touching-requires-clause-near c =
    subst (All IsNear) (sym (c.as_slice.ensures.value ∙ c.in_ok-areas.ensures)) (all_areas IsNear c.args.typed_stacks.now c.requires.near)

pub changed_pieces-requires-clause-within : goal.changed_pieces-requires-clause-within
changed_pieces-requires-clause-within c =
    let typed_stacks = c.args.typed_stacks.now in
    let contacts = c.in_ok-contacts.contacts.items in
    let touch : Lists (IsSharedEdge (typed_stack_areas typed_stacks)) contacts =
    subst (λ (areas : List Rect). Lists (IsSharedEdge areas) contacts) (c.as_slice.ensures.value ∙ c.in_ok-areas.ensures) c.in_ok-contacts.ensures in
    subst (All (λ contact. (contact.first < length typed_stacks) × (contact.second < length typed_stacks))) (sym c.as_slice-2.ensures.value)
    (contacts_within typed_stacks contacts touch)

pub returns : goal.returns
returns c =
    let raw = c.args.raw.now in
    let typed_stacks = c.args.typed_stacks.now in
    let contacts = c.in_ok-contacts.contacts.items in
    let touch : Lists (IsSharedEdge (typed_stack_areas typed_stacks)) contacts =
    subst (λ (areas : List Rect). Lists (IsSharedEdge areas) contacts) (c.as_slice.ensures.value ∙ c.in_ok-areas.ensures) c.in_ok-contacts.ensures in
    IfOk-weaker c.changed_pieces.result (λ pieces. pieces.items ≡ changed_pieces raw typed_stacks c.as_slice-2.result.now)
    (λ pieces. AreFoundChanges raw typed_stacks pieces.items)
    (λ (pieces : Vec Rect Global) is. of_contacts contacts touch
    (subst (λ (cs : List Contact). pieces.items ≡ changed_pieces raw typed_stacks cs) c.as_slice-2.ensures.value is))
    c.changed_pieces.ensures
