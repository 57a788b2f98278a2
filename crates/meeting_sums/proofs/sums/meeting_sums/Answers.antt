-- There is a column for each class, and a sum of them for each group.
use Rattle.meeting_sums.proofs.Common.{◌<◌, List, length, sym, ◌∙◌, ap, subst, arith, All, ClassRec, RawTech, PlaneStack, Column, AreColumns}
use Rattle.meeting_sums.proofs.Common.{IsSmallSum, pairs_at}
use Rattle.meeting_sums.proofs.ColumnLaws.{areas_long, perimeters_long}
use Rattle.meeting_sums.proofs.GroupLaws.{sums_are}
use Rattle.meeting_sums.proofs.SmallLaws.{pairs_small}
use Rattle.meeting_sums.proofs.sums.meeting_sums.Goals as goal

pub sum_of_group-requires-clause-areas : goal.sum_of_group-requires-clause-areas
sum_of_group-requires-clause-areas c =
    subst (λ (v : List Column). All (λ (column : Column). c.loop-group.group < length column.areas.items) v) (sym c.as_slice.ensures.value)
    (areas_long c.items-classes.result.now c.args.stacks.now c.args.contacts.now c.args.groups.now c.args.count c.loop-group.group
    c.in_ok-columns.columns.items c.loop-group-test.true c.in_ok-columns.ensures)

pub sum_of_group-requires-clause-perimeters : goal.sum_of_group-requires-clause-perimeters
sum_of_group-requires-clause-perimeters c =
    subst (λ (v : List Column). All (λ (column : Column). c.loop-group.group < length column.perimeters.items) v) (sym c.as_slice.ensures.value)
    (perimeters_long c.items-classes.result.now c.args.stacks.now c.args.contacts.now c.args.groups.now c.args.count c.loop-group.group
    c.in_ok-columns.columns.items c.loop-group-test.true c.in_ok-columns.ensures)

pub sum_of_group-requires-clause-small : goal.sum_of_group-requires-clause-small
sum_of_group-requires-clause-small c =
    let stacks = c.args.stacks.now in
    let limit = c.raw.ensures.well_formed.planes_limit in
    let planes : All (λ (piece : PlaneStack). piece.plane < 8) stacks = λ k d below. let on = c.requires.planes k d below in omega (arith, on, limit) in
    subst (λ (v : List Column). All IsSmallSum (pairs_at c.loop-group.group v)) (sym c.as_slice.ensures.value)
    (pairs_small c.items-classes.result.now stacks c.args.contacts.now c.args.groups.now c.args.count c.loop-group.group c.in_ok-columns.columns.items
    c.loop-group-test.true c.in_ok-columns.ensures c.requires.spread c.requires.contacts planes c.requires.ordered c.requires.few_parts)

pub returns : goal.returns
returns c =
    let raw = c.args.tech.now in
    let stacks = c.args.stacks.now in
    let contacts = c.args.contacts.now in
    let groups = c.args.groups.now in
    let columns = c.in_ok-columns.columns.items in
    let classes = c.items-classes.ensures ∙ ap (λ (v : RawTech). v.classes) c.raw.ensures.value in
    let have : AreColumns raw.classes stacks contacts groups c.args.count columns =
    subst (λ (v : List ClassRec). AreColumns v stacks contacts groups c.args.count columns) classes c.in_ok-columns.ensures in
    let past = c.loop-group-test.false in
    let here = c.loop-group.auto.group-end in
    let many = c.loop-group.invariant.so_many in
    sums_are raw stacks contacts groups c.args.count columns c.loop-group.sums.items c.raw.ensures.well_formed c.requires.contacts c.requires.one_each have
    (omega (arith, past, here, many)) (λ k below. c.loop-group.invariant.each k (omega (arith, past, here, below)))
