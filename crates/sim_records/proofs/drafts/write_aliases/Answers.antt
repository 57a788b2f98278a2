use Rattle.sim_records.specs.Drafts.{node_aliases_text}
use Rattle.sim_records.proofs.DraftLaws.{goes_nowhere, goes_on_one}
use Rattle.sim_records.proofs.drafts.write_aliases.Goals as goal

pub loop-node-init : goal.loop-node-init
loop-node-init c = goes_nowhere c.args.text.now.items

pub loop-node-preserved : goal.loop-node-preserved
loop-node-preserved c =
    goes_on_one node_aliases_text c.args.nodes.now c.loop-node.node-index c.node-item.result
    c.args.text.now.items c.loop-node.text.items c.write_node_aliases.new.text.items c.loop-node-test.true c.node-item.is c.loop-node.invariant
    c.in_ok-write_node_aliases.ensures
