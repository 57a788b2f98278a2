use Rattle.fet_regions.proofs.Common.{◌≡◌, ℕ, List, length, subst, arith, channel_in, terminal_in, AreFets}
use Rattle.measures.proofs.AmountLaws.{contacts_within, contacts_some}
use Rattle.fet_regions.proofs.FetLaws.{fets_found, fets_by_region}
use Rattle.fet_regions.proofs.transistors.fets_of.Goals as goal

pub label_alike-requires : goal.label_alike-requires
label_alike-requires c = contacts_within c.args.tiles.now c.args.contacts.now c.args.count c.requires.sound c.requires.contacts

pub labelled_fets-requires-clause-within : goal.labelled_fets-requires-clause-within
labelled_fets-requires-clause-within c = contacts_within c.args.tiles.now c.args.contacts.now c.args.count c.requires.sound c.requires.contacts

pub labelled_fets-requires-clause-some : goal.labelled_fets-requires-clause-some
labelled_fets-requires-clause-some c = contacts_some c.args.tiles.now c.args.contacts.now c.args.count c.requires.sound c.requires.contacts

pub returns : goal.returns
returns c =
    let raw = c.args.raw.now in
    let tiles = c.args.tiles.now in
    let contacts = c.args.contacts.now in
    let roles = c.in_ok-roles.roles in
    let made = c.in_ok-labels.field-0 in
    let found = c.in_ok-found.found.items in
    let fets : AreFets (channel_in roles) (terminal_in roles) tiles contacts made.labels.items made.count found =
    subst (λ (ls : List ℕ). AreFets (channel_in roles) (terminal_in roles) tiles contacts ls made.count found) c.as_slice.ensures.value
    c.in_ok-found.ensures in
    let len = c.in_ok-labels.ensures.len in
    let long : length made.labels.items ≡ length tiles = omega (arith, made.labels.ok.0, len) in
    record {
      transistors = λ layout are typed.
          fets_found raw layout tiles contacts made.labels.items made.count roles found c.requires.well_formed c.requires.rules typed are c.requires.contacts
          c.in_ok-roles.ensures long c.in_ok-labels.ensures.divides c.in_ok-labels.ensures.below fets;
      by_region = fets_by_region (channel_in roles) (terminal_in roles) tiles contacts made.labels.items made.count found fets;
    }
