use Rattle.flatten.proofs.Common.{List, map, ◌∙◌, ap, subst, arith, length-set, take_all, MergeRec, Local, MergeEnd, label_of, element_at, AddAll}
use Rattle.flatten.proofs.Common.{merge_addend}
use Rattle.flatten.proofs.AddingLaws.{step_fits, step_adds}
use Rattle.flatten.proofs.EndLaws.{end_here}
use Rattle.flatten.proofs.sums.add_merges.Goals as goal

abbrev no_end : MergeEnd
no_end = record { step = 0; spot = Local 0 }

pub overflow_add-element : goal.overflow_add-element
overflow_add-element c =
    let end = end_here c.args.element c.requires.merges c.requires.ends c.loop-at.at c.loop-at-test.true c.index-merges-at.is no_end in
    let within = end.within in
    let few = c.requires.few in
    omega (arith, within, few)

pub node_of-number-requires-clause-element : goal.node_of-number-requires-clause-element
node_of-number-requires-clause-element c =
    (end_here c.args.element c.requires.merges c.requires.ends c.loop-at.at c.loop-at-test.true c.index-merges-at.is no_end).within

pub node_of-number-requires-clause-spot : goal.node_of-number-requires-clause-spot
node_of-number-requires-clause-spot c =
    let end = end_here c.args.element c.requires.merges c.requires.ends c.loop-at.at c.loop-at-test.true c.index-merges-at.is no_end in
    (end.name, end.is_spot)

pub add_amounts-requires : goal.add_amounts-requires
add_amounts-requires c =
    let are = c.requires.names in
    let fits = step_fits (merge_addend are.list c.args.labels.now (element_at c.args.names.now c.args.element)) c.args.merges.now c.loop-at.at c.index-merges-at.is
    c.loop-at-test.true c.args.labels.now c.args.sums.now c.requires.below c.loop-at.invariant.long c.node_of-number.ensures.label c.index-sums-number.result
    c.requires.room (c.loop-at.invariant.adds are.list are.is_list) c.items.ensures in
    record { long = fits.long; fit = fits.fit }

pub loop-at-preserved : goal.loop-at-preserved
loop-at-preserved c = record {
  long = length-set c.loop-at.sums c.node_of-number.result c.add_amounts.new.sum ∙ c.loop-at.invariant.long;
  adds = λ list is_list.
      (let merges = c.args.merges.now in
      let end = end_here c.args.element c.requires.merges c.requires.ends c.loop-at.at c.loop-at-test.true c.index-merges-at.is no_end in
      step_adds (merge_addend list c.args.labels.now (element_at c.args.names.now c.args.element)) merges c.loop-at.at c.index-merges-at.is c.loop-at-test.true
      c.args.labels.now c.args.sums.now c.requires.below c.loop-at.invariant.long c.node_of-number.ensures.label c.index-sums-number.result c.requires.room
      (c.loop-at.invariant.adds list is_list) c.items.ensures (c.node_of-number.ensures.node list is_list end.name end.is_spot ∙ ap (label_of list c.args.labels.now) end.full)
      c.add_amounts.new.sum c.add_amounts.ensures);
}

pub returns : goal.returns
returns c list is_list =
    let merges = c.args.merges.now in
    let f = merge_addend list c.args.labels.now (element_at c.args.names.now c.args.element) in
    let P : List MergeRec → Type 0 = λ l. AddAll (map f l) c.args.sums.now c.loop-at.sums in
    subst P (take_all c.loop-at.at merges c.loop-at-test.false ∙ c.requires.merges) (c.loop-at.invariant.adds list is_list)
