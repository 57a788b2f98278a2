use Rattle.flatten.proofs.Common.{◌+◌, ℕ, List, map, take, sym, subst, In-map, NodeRec, Spot, IsSpotOf, AreSpotsOf}
use Rattle.flatten.proofs.PlaceLaws.{AreAlong-more, In-read}
use Rattle.flatten.proofs.spots.node_spots.Goals as goal

abbrev name_of : NodeRec → List ℕ
name_of node = node.name

pub spot_of-requires-clause-name : goal.spot_of-requires-clause-name
spot_of-requires-clause-name c =
    c.requires.has c.node-item.result.name
    (In-map name_of c.node-item.result c.args.nodes.now (In-read c.args.nodes.now c.loop-node.node-index c.node-item.result c.loop-node-test.true
    c.node-item.is))

pub loop-node-preserved : goal.loop-node-preserved
loop-node-preserved c =
    let nodes = c.args.nodes.now in
    let i = c.loop-node.node-index in
    let node = c.node-item.result in
    let P : List Spot → Type 0 = λ spots. AreSpotsOf c.args.names.now c.args.cell (map name_of (take (i + 1) nodes)) spots in
    let Q : NodeRec → Type 0 = λ one. IsSpotOf c.args.names.now c.args.cell one.name c.spot_of.result in
    subst P (sym c.in_ok-push.ensures.items)
    (AreAlong-more (IsSpotOf c.args.names.now c.args.cell) name_of nodes c.loop-node.spots.items i c.spot_of.result node c.loop-node.invariant
    c.loop-node-test.true (subst Q c.node-item.is c.spot_of.ensures))
