use Rattle.name_classes.proofs.Common.{List, length, take, refl, sym, subst, slice_get_read, In-slice_get, take-slice_get, NodeRec, AreNodeLinks}
use Rattle.name_classes.proofs.LinkLaws.{no_nodes, node_added}
use Rattle.name_classes.proofs.links.node_links.Goals as goal

pub loop-node-init : goal.loop-node-init
loop-node-init c = no_nodes c.args.resolver.now.names.now c.args.number _ c.new.ensures.items c.new-2.ensures.items

pub add_node-requires-clause-node : goal.add_node-requires-clause-node
add_node-requires-clause-node c =
    let nodes = c.items-node-items.result.now in
    let here = slice_get_read nodes (length nodes) c.loop-node.node-index c.node-item.result refl c.loop-node-test.true c.node-item.is in
    rw c.items-node-items.ensures at (In-slice_get nodes c.loop-node.node-index c.node-item.result here)

pub loop-node-preserved : goal.loop-node-preserved
loop-node-preserved c =
    let names = c.args.resolver.now.names.now in
    let nodes = c.items-node-items.result.now in
    let index = c.loop-node.node-index in
    let node = c.node-item.result in
    let here = slice_get_read nodes (length nodes) index node refl c.loop-node-test.true c.node-item.is in
    let P : List NodeRec → Type 0 = λ done. AreNodeLinks names c.args.number done c.add_node.new.self in
    subst P (sym (take-slice_get nodes index node here))
    (node_added names c.args.number (take index nodes) node c.loop-node.links c.add_node.new.self c.loop-node.invariant c.in_ok-add_node.ensures)
