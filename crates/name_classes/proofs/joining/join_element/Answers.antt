use Rattle.name_classes.proofs.Common.{List, ◌++◌, ◌∙◌, subst, In, In-append_left, In-append_right, Link, AddsJoins, once_at}
use Rattle.name_classes.proofs.JoinLaws.{adds_append}
use Rattle.name_classes.proofs.joining.join_element.Goals as goal

pub join_links-requires-clause-ends : goal.join_links-requires-clause-ends
join_links-requires-clause-ends c = λ link here.
    let links = c.args.links.now in
    let within = subst (λ (all : List Link). In link all) c.once_at.ensures here in
    c.requires.ends link (In-append_left link (once_at c.args.number links) (links.nodes.each.items ++ links.merges.items) within)

pub join_links-requires-2-clause-count : goal.join_links-requires-2-clause-count
join_links-requires-2-clause-count c = c.join_links.ensures.long ∙ c.requires.count

pub join_links-requires-2-clause-ends : goal.join_links-requires-2-clause-ends
join_links-requires-2-clause-ends c = λ link here.
    let links = c.args.links.now in
    let within = subst (λ (all : List Link). In link all) c.as_slice.ensures.value here in
    c.requires.ends link (In-append_right link (once_at c.args.number links) (links.nodes.each.items ++ links.merges.items)
    (In-append_left link links.nodes.each.items links.merges.items within))

pub join_links-requires-3-clause-count : goal.join_links-requires-3-clause-count
join_links-requires-3-clause-count c = c.join_links-2.ensures.long ∙ (c.join_links.ensures.long ∙ c.requires.count)

pub join_links-requires-3-clause-ends : goal.join_links-requires-3-clause-ends
join_links-requires-3-clause-ends c = λ link here.
    let links = c.args.links.now in
    let within = subst (λ (all : List Link). In link all) c.as_slice-2.ensures.value here in
    c.requires.ends link (In-append_right link (once_at c.args.number links) (links.nodes.each.items ++ links.merges.items)
    (In-append_right link links.nodes.each.items links.merges.items within))

pub returns : goal.returns
returns c =
    let names = c.args.names.now in
    let number = c.args.number in
    let links = c.args.links.now in
    let old = c.args.partition.now in
    let first = c.join_links.new.partition in
    let second = c.join_links-2.new.partition in
    let third = c.join_links-3.new.partition in
    let once = subst (λ (all : List Link). AddsJoins names number all old first) c.once_at.ensures c.join_links.ensures in
    let each = subst (λ (all : List Link). AddsJoins names number all first second) c.as_slice.ensures.value c.join_links-2.ensures in
    let merges = subst (λ (all : List Link). AddsJoins names number all second third) c.as_slice-2.ensures.value c.join_links-3.ensures in
    adds_append names number (once_at number links) (links.nodes.each.items ++ links.merges.items) old first third once
    (adds_append names number links.nodes.each.items links.merges.items first second third each merges)
