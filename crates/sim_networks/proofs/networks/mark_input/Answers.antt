use Rattle.sim_networks.proofs.Common.{arith, network_of, sound_of, names_with_nodes}
use Rattle.sim_networks.proofs.InputLaws.{marks_none, marks_one, no_node, node_below, one_node}
use Rattle.sim_networks.proofs.networks.mark_input.Goals as goal

pub set_input-requires : goal.set_input-requires
set_input-requires c =
    let below = node_below c.args.table.now c.requires.table c.args.name.now c.in-Some.node c.in-Some.ensures in
    omega (arith, below, c.requires.count)

pub returns-in-Some : goal.returns-in-Some
returns-in-Some c =
    let table = c.args.table.now in
    let below = node_below table c.requires.table c.args.name.now c.in-Some.node c.in-Some.ensures in
    marks_one (names_with_nodes table) c.args.name.now c.in-Some.node (network_of c.args.net.now) (network_of c.set_input.new.self)
    (one_node table c.requires.table) (sound_of c.args.net.now).one_input (omega (arith, below, c.requires.count)) c.in-Some.ensures
    c.set_input.ensures

pub returns-in_default : goal.returns-in_default
returns-in_default c =
    let table = c.args.table.now in
    marks_none (names_with_nodes table) c.args.name.now (network_of c.args.net.now) (no_node table c.args.name.now c.in_default.ensures)
