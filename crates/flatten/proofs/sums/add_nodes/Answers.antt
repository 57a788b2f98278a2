use Rattle.flatten.proofs.Common.{ℕ, List, map, ◌∙◌, subst, length-set, take_all, NodeRec, Local, IsSpotOf, element_at, cell_at, AddAll, node_addend}
use Rattle.flatten.proofs.PlaceLaws.{AreAlong-at}
use Rattle.flatten.proofs.AddingLaws.{step_fits, step_adds}
use Rattle.flatten.proofs.sums.add_nodes.Goals as goal

abbrev name_of : NodeRec → List ℕ
name_of node = node.name

pub node_of-number-requires-clause-spot : goal.node_of-number-requires-clause-spot
node_of-number-requires-clause-spot c = (
  c.index-nodes-at.result.name,
  AreAlong-at (IsSpotOf c.args.names.now (cell_at c.args.names.now c.args.element)) name_of c.args.nodes.now c.args.spots.now c.requires.spots c.loop-at.at
      c.loop-at-test.true c.index-nodes-at.result c.index-nodes-at.is (Local 0),
)

pub add_amounts-requires : goal.add_amounts-requires
add_amounts-requires c =
    let are = c.requires.names in
    let fits = step_fits (node_addend are.list c.args.labels.now (element_at c.args.names.now c.args.element)) c.args.nodes.now c.loop-at.at c.index-nodes-at.is
    c.loop-at-test.true c.args.labels.now c.args.sums.now c.requires.below c.loop-at.invariant.long c.node_of-number.ensures.label c.index-sums-number.result
    c.requires.room (c.loop-at.invariant.adds are.list are.is_list) c.items.ensures in
    record { long = fits.long; fit = fits.fit }

pub loop-at-preserved : goal.loop-at-preserved
loop-at-preserved c = record {
  long = length-set c.loop-at.sums c.node_of-number.result c.add_amounts.new.sum ∙ c.loop-at.invariant.long;
  adds = λ list is_list.
      (let nodes = c.args.nodes.now in
      let node = c.index-nodes-at.result in
      let is_spot = AreAlong-at (IsSpotOf c.args.names.now (cell_at c.args.names.now c.args.element)) name_of nodes c.args.spots.now c.requires.spots
      c.loop-at.at
      c.loop-at-test.true node c.index-nodes-at.is (Local 0) in
      step_adds (node_addend list c.args.labels.now (element_at c.args.names.now c.args.element)) nodes c.loop-at.at c.index-nodes-at.is c.loop-at-test.true
      c.args.labels.now c.args.sums.now c.requires.below c.loop-at.invariant.long c.node_of-number.ensures.label c.index-sums-number.result c.requires.room
      (c.loop-at.invariant.adds list is_list) c.items.ensures (c.node_of-number.ensures.node list is_list node.name is_spot)
      c.add_amounts.new.sum c.add_amounts.ensures);
}

pub returns : goal.returns
returns c list is_list =
    let nodes = c.args.nodes.now in
    let f = node_addend list c.args.labels.now (element_at c.args.names.now c.args.element) in
    let P : List NodeRec → Type 0 = λ l. AddAll (map f l) c.args.sums.now c.loop-at.sums in
    subst P (take_all c.loop-at.at nodes c.loop-at-test.false ∙ c.requires.nodes) (c.loop-at.invariant.adds list is_list)
