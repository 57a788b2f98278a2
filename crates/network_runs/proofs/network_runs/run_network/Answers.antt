use Rattle.network_runs.proofs.Common.{ℕ, List, sym, subst, sim_of, network_of, TellsVectors, TellsFaults}
use Rattle.std.proofs.lemmas.Result.{IfOk-weaker}
use Rattle.network_runs.specs.declared.network_runs.NetworkRun.{NetworkRun}
use Rattle.network_runs.specs.NetworkRuns.{TellsOn}
use Rattle.network_runs.proofs.GradingLaws.{tells_coverage}
use Rattle.network_runs.proofs.SimulationLaws.{tells_net}
use Rattle.network_runs.proofs.network_runs.run_network.Goals as goal

pub returns-in-Vectors-clause-tells : goal.returns-in-Vectors-clause-tells
returns-in-Vectors-clause-tells c =
    let circuit = c.args.circuit.now in
    let net = network_of c.args.named.now.net in
    let names = c.args.named.now.names in
    IfOk-weaker c.vector_lines.result _ _
    (λ lines tells. subst (λ (run : NetworkRun). TellsOn run c.args.budget c.args.number circuit lines.items) (sym c.in-Vectors.is)
    (tells_net c.args.budget c.args.number (sim_of circuit) c.in-Vectors.text net names lines.items c.requires.net
    (subst (λ (text : List ℕ). TellsVectors c.args.budget c.args.number text net names lines.items) c.items.ensures tells)))
    c.vector_lines.ensures.tells

pub returns-in-Stack-clause-tells : goal.returns-in-Stack-clause-tells
returns-in-Stack-clause-tells c =
    IfOk-weaker c.stack_lines.result _ _
    (λ lines tells. subst (λ (run : NetworkRun). TellsOn run c.args.budget c.args.number c.args.circuit.now lines.items) (sym c.in-Stack.is) tells)
    c.stack_lines.ensures.tells

pub returns-in-Grade-clause-tells : goal.returns-in-Grade-clause-tells
returns-in-Grade-clause-tells c =
    let circuit = c.args.circuit.now in
    let net = network_of c.args.named.now.net in
    let names = c.args.named.now.names in
    IfOk-weaker c.coverage_lines.result _ _
    (λ lines tells. subst (λ (run : NetworkRun). TellsOn run c.args.budget c.args.number circuit lines.items) (sym c.in-Grade.is)
    (tells_coverage c.args.budget c.args.number c.in-Grade.cell c.in-Grade.text circuit net names lines.items c.requires.net c.requires.nodes
    (subst (λ (text : List ℕ). TellsFaults c.args.budget c.args.number c.in-Grade.cell text circuit net names lines.items) c.items-in-Grade.ensures tells)))
    c.coverage_lines.ensures.tells
