use Rattle.sim_records.proofs.Common.{◌++◌, ap, ◌∙◌, aliases_of}
use Rattle.sim_records.proofs.Additions.{add_images}
use Rattle.sim_records.proofs.caps.all_aliases.Goals as goal

pub loop-node-preserved : goal.loop-node-preserved
loop-node-preserved c =
    let node = c.node-item.result in
    c.in_ok-add_aliases.ensures
    ∙ ap (λ items. items ++ aliases_of node) c.loop-node.invariant
    ∙ add_images aliases_of c.args.nodes.now c.loop-node.node-index node c.loop-node-test.true c.node-item.is
