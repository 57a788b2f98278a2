use Rattle.sim_networks.proofs.GatherLaws.{adds_fet, adds_none}
use Rattle.sim_networks.proofs.names.NodeNames.add_fets.Goals as goal

pub loop-fet-init : goal.loop-fet-init
loop-fet-init c = adds_none c.args.self.now c.requires

pub add_terminals-requires : goal.add_terminals-requires
add_terminals-requires c = c.loop-fet.invariant.indexed

pub loop-fet-preserved : goal.loop-fet-preserved
loop-fet-preserved c =
    adds_fet c.args.fets.now c.loop-fet.fet-index c.fet-item.result c.args.self.now c.loop-fet.self c.add_terminals.new.self
    c.loop-fet-test.true c.fet-item.is
    c.loop-fet.invariant c.in_ok-add_terminals.ensures
