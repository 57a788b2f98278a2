use Rattle.network_runs.proofs.Common.{subst, SimFile, network_of, IsNetOf}
use Rattle.network_runs.specs.declared.simulations.MadeNet.{MadeNet}
use Rattle.network_runs.specs.Simulations.{IsMadeNet}
use Rattle.network_runs.proofs.network_runs.run_sim.Goals as goal

pub run_network-requires-clause-nodes : goal.run_network-requires-clause-nodes
run_network-requires-clause-nodes c =
    let named = c.in-Net.named in
    let of_records : IsNetOf c.args.sim.now (network_of named.net) named.names =
    subst (λ (made : MadeNet). IsMadeNet c.args.sim.now made) c.in-Net.is c.in_ok-named.ensures.made in
    c.requires.simulated.same_nodes (network_of named.net) named.names
    (subst (λ (sim : SimFile). IsNetOf sim (network_of named.net) named.names) c.requires.records of_records)
