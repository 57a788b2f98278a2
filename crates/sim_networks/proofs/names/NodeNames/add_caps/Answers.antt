use Rattle.sim_networks.proofs.GatherLaws.{adds_cap, adds_none}
use Rattle.sim_networks.proofs.names.NodeNames.add_caps.Goals as goal

pub loop-cap-init : goal.loop-cap-init
loop-cap-init c = adds_none c.args.self.now c.requires

pub add-requires : goal.add-requires
add-requires c = c.loop-cap.invariant.indexed

pub loop-cap-preserved : goal.loop-cap-preserved
loop-cap-preserved c =
    adds_cap c.args.caps.now c.loop-cap.cap-index c.cap-item.result c.args.self.now c.loop-cap.self c.add.new.self c.loop-cap-test.true
    c.cap-item.is
    c.loop-cap.invariant c.in_ok-add.ensures
