use Rattle.sim_networks.proofs.Common.{network_of, sound_of, records_of}
use Rattle.sim_networks.proofs.InputLaws.{network_made}
use Rattle.sim_networks.proofs.networks.powered.Goals as goal

pub returns : goal.returns
returns c =
    let start = c.in_ok-net.ensures in
    let net = c.mark_input-2.new.net in
    network_made (records_of c.args.sim.now) c.args.table.now (network_of c.in_ok-net.net) (network_of c.mark_input.new.net)
    (network_of net) c.requires.table start.nodes start.switches start.sizes start.inputs c.mark_input.ensures c.mark_input-2.ensures
    (sound_of net)
