use Rattle.sim_networks.proofs.Common.{◌≡◌, sym, subst, IsNumberedByCaps, records_of, names_with_nodes}
use Rattle.std.proofs.lemmas.Result.{IfOk-weaker}
use Rattle.sim_networks.proofs.networks.net_of.Goals as goal

pub returns-clause-order : goal.returns-clause-order
returns-clause-order c =
    let records = records_of c.args.sim.now in
    let table = c.in_ok-table.table in
    IfOk-weaker c.named_net.result (λ named. named.names ≡ names_with_nodes table) (λ named. IsNumberedByCaps records named.names)
    (λ named same. subst (IsNumberedByCaps records) (sym same) c.in_ok-table.ensures.in_order) c.named_net.ensures.names
