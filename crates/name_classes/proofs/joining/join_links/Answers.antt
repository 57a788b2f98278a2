use Rattle.name_classes.proofs.Common.{List, ◌∷◌, [], take, sym, ◌∙◌, subst, slice_get-get_or, In-slice_get, take-slice_get, Link, AddsJoins}
use Rattle.name_classes.proofs.JoinLaws.{adds_none, adds_append}
use Rattle.name_classes.proofs.joining.join_links.Goals as goal

pub loop-link-init : goal.loop-link-init
loop-link-init c = adds_none c.args.names.now c.args.number c.args.partition.now

pub join_link-requires-clause-count : goal.join_link-requires-clause-count
join_link-requires-clause-count c = c.loop-link.invariant.long ∙ c.requires.count

pub join_link-requires-clause-ends : goal.join_link-requires-clause-ends
join_link-requires-clause-ends c =
    let here = slice_get-get_or c.args.links.now c.loop-link.link-index _ c.loop-link-test.true in
    c.requires.ends _ (In-slice_get c.args.links.now c.loop-link.link-index _ here)

pub loop-link-preserved : goal.loop-link-preserved
loop-link-preserved c =
    let names = c.args.names.now in
    let links = c.args.links.now in
    let index = c.loop-link.link-index in
    let here = slice_get-get_or links index _ c.loop-link-test.true in
    let P : List Link → Type 0 = λ done. AddsJoins names c.args.number done c.args.partition.now c.join_link.new.partition in
    subst P (sym (take-slice_get links index _ here))
    (adds_append names c.args.number (take index links) (_ ∷ []) c.args.partition.now c.loop-link.partition c.join_link.new.partition c.loop-link.invariant
    c.join_link.ensures)
