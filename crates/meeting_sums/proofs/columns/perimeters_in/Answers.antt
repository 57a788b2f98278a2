use Rattle.meeting_sums.proofs.Common.{◌<◌, pos, ◌-ℤ◌, sym, subst, All, In, Amount, class_of, shared_beyond, perimeter_beyond}
use Rattle.meeting_sums.specs.steps.Counts.{alone_beyond}
use Rattle.meeting_sums.proofs.AmountLaws.{adds_then}
use Rattle.meeting_sums.proofs.ColumnLaws.{group_keys, alone_less_shared}
use Rattle.meeting_sums.proofs.StackLaws.{contacts_within, contacts_some}
use Rattle.meeting_sums.proofs.columns.perimeters_in.Goals as goal

pub push_contacts-requires-clause-within : goal.push_contacts-requires-clause-within
push_contacts-requires-clause-within c = contacts_within c.args.stacks.now c.args.contacts.now c.requires.contacts

pub push_contacts-requires-clause-some : goal.push_contacts-requires-clause-some
push_contacts-requires-clause-some c = contacts_some c.args.stacks.now c.args.contacts.now c.requires.contacts

pub sums_by_key-requires : goal.sums_by_key-requires
sums_by_key-requires c =
    let contains = (class_of c.args.class.now).contains in
    let stacks = c.args.stacks.now in
    let contacts = c.args.contacts.now in
    let groups = c.args.groups.now in
    let old = c.in_ok-amounts.amounts.items in
    let new = c.push_contacts.new.amounts.items in
    let both = adds_then (λ key. In key groups) (λ key. In key groups) (λ key. In key groups) (alone_beyond contains stacks groups)
    (λ key. pos 0 -ℤ shared_beyond contains stacks contacts groups key) (perimeter_beyond contains stacks contacts groups) old
    c.push_perimeters.new.amounts.items new c.in_ok-push_perimeters.ensures c.in_ok-push_contacts.ensures (λ key i. i) (λ key i. i)
    (λ key. alone_less_shared (alone_beyond contains stacks groups key) (shared_beyond contains stacks contacts groups key)) in
    subst (All (λ (a : Amount). a.key < c.args.count)) (sym c.as_slice.ensures.value)
    (group_keys groups (perimeter_beyond contains stacks contacts groups) old new c.args.count c.in_ok-amounts.ensures.items both c.requires.counted)
