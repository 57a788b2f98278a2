use Rattle.network_commands.proofs.Common.{rules, IfOk-weaker, network_of, IsNetOf, both_ok}
use Rattle.network_runs.specs.Simulations.{PassesNet}
use Rattle.network_commands.proofs.SimulationCommands.{net_refused, net_run}
use Rattle.network_commands.proofs.command_simrun.run_records.Goals as goal

pub returns-in-Net-clause-effect : goal.returns-in-Net-clause-effect
returns-in-Net-clause-effect g c files fetched told =
    let named = c.in-Net.named in
    let is : IsNetOf c.args.sim.now (network_of named.net) named.names = search rules in
    IfOk-weaker c.run_network.result _ _
    (λ answer means. net_run c.args.budget c.args.number files c.args.sim.now (network_of named.net) named.names c.args.file fetched answer
    (g.F.Shelf.fetch_plan c.args.shelf.now) (g.F.Shelf.fetch_plan c.run_network.new.shelf) is means)
    (c.run_network.ensures.effect files fetched told)

pub returns-in-Passed-clause-effect : goal.returns-in-Passed-clause-effect
returns-in-Passed-clause-effect g c files fetched told =
    let passes : PassesNet c.args.sim.now c.in-Passed.limit = search rules in
    both_ok c.refuse_too_many.result _ _ _
    (λ answer lines stores. net_refused c.args.budget c.args.number files c.args.sim.now c.in-Passed.limit c.args.file fetched answer
    (g.F.Shelf.fetch_plan c.args.shelf.now) passes lines stores)
    (rw c.sim_limit_word.ensures at c.refuse_too_many.ensures.lines) c.refuse_too_many.ensures.stores
