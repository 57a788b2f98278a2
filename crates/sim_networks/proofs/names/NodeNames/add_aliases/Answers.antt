use Rattle.sim_networks.proofs.GatherLaws.{adds_alias, adds_none}
use Rattle.sim_networks.proofs.names.NodeNames.add_aliases.Goals as goal

pub loop-pair-init : goal.loop-pair-init
loop-pair-init c = adds_none c.args.self.now c.requires

pub add_pair-requires : goal.add_pair-requires
add_pair-requires c = c.loop-pair.invariant.indexed

pub loop-pair-preserved : goal.loop-pair-preserved
loop-pair-preserved c =
    adds_alias c.args.aliases.now c.loop-pair.pair-index c.pair-item.result c.args.self.now c.loop-pair.self c.add_pair.new.self
    c.loop-pair-test.true c.pair-item.is
    c.loop-pair.invariant c.in_ok-add_pair.ensures
