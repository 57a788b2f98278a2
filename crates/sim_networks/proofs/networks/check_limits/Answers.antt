use Rattle.sim_networks.proofs.Common.{length, inl, inr, refl, ap, arith, records_of, names_with_nodes}
use Rattle.switch_net.specs.declared.limits.TheConstants.{MOST_NODES}
use Rattle.sim_networks.proofs.CountLaws.{few_nodes, many_nodes}
use Rattle.sim_networks.proofs.networks.check_limits.Goals as goal

pub returns-then-table-clause-refused : goal.returns-then-table-clause-refused
returns-then-table-clause-refused c =
    let table = c.args.table.now in
    let named = names_with_nodes table in
    inl (record { is = refl; more = many_nodes (records_of c.args.sim.now) table.count named c.requires.nodes MOST_NODES (omega arith) })

pub returns-then-items-gt-MOST_SWITCHES-clause-refused : goal.returns-then-items-gt-MOST_SWITCHES-clause-refused
returns-then-items-gt-MOST_SWITCHES-clause-refused c =
    let table = c.args.table.now in
    inr (record {
      is = refl;
      few_nodes = few_nodes (records_of c.args.sim.now) table.count (names_with_nodes table) c.requires.nodes MOST_NODES (omega arith);
      more = omega (arith, ap length c.items.ensures);
    })

pub returns-clause-few_nodes : goal.returns-clause-few_nodes
returns-clause-few_nodes c =
    let table = c.args.table.now in
    few_nodes (records_of c.args.sim.now) table.count (names_with_nodes table) c.requires.nodes MOST_NODES (omega arith)
