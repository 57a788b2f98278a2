use Rattle.sim_networks.proofs.Common.{NodeTable}
use Rattle.sim_networks.proofs.NodeLaws.{file_aliases_known, table_made}
use Rattle.sim_networks.proofs.nodes.NodeTable.of.Goals as goal

pub joined-requires : goal.joined-requires
joined-requires c = file_aliases_known c.args.sim.now c.in_ok-names.names c.items.result.now c.in_ok-names.ensures c.items.ensures

pub returns : goal.returns
returns c =
    let made = c.in_ok-labels.field-0 in
    let table : NodeTable = record { names = c.in_ok-names.names; labels = made.labels; count = made.count } in
    let labels = c.in_ok-labels.ensures in
    table_made c.args.sim.now table c.items.result.now c.in_ok-names.ensures c.items.ensures labels.long labels.numbered labels.divides
