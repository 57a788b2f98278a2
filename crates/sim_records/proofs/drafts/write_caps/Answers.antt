use Rattle.sim_records.proofs.Common.{NodeRec, saying_cap, whole_line_saying, cap_of}
use Rattle.sim_records.proofs.DraftLaws.{goes_nowhere, goes_on_one}
use Rattle.sim_records.proofs.drafts.write_caps.Goals as goal

pub loop-node-init : goal.loop-node-init
loop-node-init c = goes_nowhere c.args.text.now.items

pub loop-node-preserved : goal.loop-node-preserved
loop-node-preserved c =
    goes_on_one (λ (node : NodeRec). whole_line_saying (saying_cap (cap_of node))) c.args.nodes.now c.loop-node.node-index c.node-item.result
    c.args.text.now.items c.loop-node.text.items c.write_cap.new.text.items c.loop-node-test.true c.node-item.is c.loop-node.invariant
    c.in_ok-write_cap.ensures
