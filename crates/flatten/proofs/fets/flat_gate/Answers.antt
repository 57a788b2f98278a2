use Rattle.flatten.proofs.Common.{length, sym, ◌∙◌, ap, arith, elements_in, name_in, element_at, name_of_node}
use Rattle.flatten.proofs.GroupLaws.{label_below}
use Rattle.flatten.proofs.SpotLaws.{spot_named}
use Rattle.flatten.proofs.TerminalLaws.{node_name_is, name_read}
use Rattle.flatten.proofs.fets.flat_gate.Goals as goal

pub returns-clause-node : goal.returns-clause-node
returns-clause-node c =
    let are = c.requires.names in
    let nodes = c.args.nodes.now in
    let number = c.node_of-node.result in
    let name = c.args.fet.now.gate.node in
    let element = element_at c.args.names.now c.args.element in
    let list = are.list in
    let is_list = are.is_list in
    let here = spot_named c.args.names.now are c.args.element c.requires.element name c.args.spots.now.gate c.requires.spots.gate list is_list in
    let labelled = c.node_of-node.ensures.node list is_list name c.requires.spots.gate in
    let named = node_name_is (elements_in c.args.names.now) list c.args.labels.now nodes is_list.in_order (c.requires.labels list is_list)
    (c.requires.nodes list is_list) (name_in element name) here in
    let below = label_below (elements_in c.args.names.now) list c.args.labels.now (length nodes) is_list.in_order (c.requires.labels list is_list)
    (name_in element name) here in
    c.in_ok-copy.ensures ∙ name_read nodes number (omega (arith, below, labelled)) c.index-nodes-node.result
    ∙ ap (name_of_node nodes) labelled ∙ sym named
