use Rattle.measures.proofs.Common.{◌<◌, ◌++◌, List, sym, ◌∙◌, ap, subst, All, class_of, Amount, shared_amounts}
use Rattle.measures.proofs.AmountLaws.{area_keys, contacts_within, contacts_some, all_keys}
use Rattle.measures.proofs.columns.measured_in.Goals as goal

pub push_shared-requires-clause-within : goal.push_shared-requires-clause-within
push_shared-requires-clause-within c = contacts_within c.args.tiles.now c.args.contacts.now c.args.count c.requires.sound c.requires.contacts

pub push_shared-requires-clause-some : goal.push_shared-requires-clause-some
push_shared-requires-clause-some c = contacts_some c.args.tiles.now c.args.contacts.now c.args.count c.requires.sound c.requires.contacts

pub sums_by_key-requires : goal.sums_by_key-requires
sums_by_key-requires c =
    subst (All (λ (a : Amount). a.key < c.args.count)) (sym (c.as_slice.ensures.value ∙ c.in_ok-areas.ensures))
    (area_keys c.args.tiles.now c.args.contacts.now c.args.count c.requires.sound (class_of c.args.class.now).contains)

pub sums_by_key-requires-2 : goal.sums_by_key-requires-2
sums_by_key-requires-2 c =
    let contains = (class_of c.args.class.now).contains in
    subst (All (λ (a : Amount). a.key < c.args.count)) (sym (c.as_slice-2.ensures.value ∙ c.in_ok-push_shared.ensures
    ∙ ap (λ (v : List Amount). v ++ shared_amounts contains c.args.tiles.now c.args.contacts.now) c.in_ok-perimeters.ensures))
    (all_keys c.args.tiles.now c.args.contacts.now c.args.count c.requires.sound c.requires.contacts contains)
