use Rattle.sim_networks.proofs.GatherLaws.{names_made}
use Rattle.sim_networks.proofs.names.NodeNames.of.Goals as goal

pub returns : goal.returns
returns c =
    names_made c.args.sim.now c.items.result.now c.items-2.result.now c.items-3.result.now c.empty-names.result c.add_caps.new.self
    c.add_fets.new.self
    c.add_aliases.new.self c.items.ensures c.items-2.ensures c.items-3.ensures c.empty-names.ensures.index c.in_ok-add_caps.ensures
    c.in_ok-add_fets.ensures c.in_ok-add_aliases.ensures
