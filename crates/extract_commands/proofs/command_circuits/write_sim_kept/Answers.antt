use Rattle.extract_commands.proofs.Common.{rules, IfOk-weaker, seen, IsSimulableCircuitAt}
use Rattle.workspace.specs.Sinks.{IsGiven, with_fets}
use Rattle.uniqueness.specs.CircuitCommands.GivenFets.{HasSimFets}
use Rattle.uniqueness.specs.CircuitCommands.declared.circuits.CircuitFile.TheVariants.{Sim}
use Rattle.extract_commands.proofs.CircuitLaws.{written_at}
use Rattle.extract_commands.proofs.command_circuits.write_sim_kept.Goals as goal

pub flatten_kept_into-requires-clause-fit : goal.flatten_kept_into-requires-clause-fit
flatten_kept_into-requires-clause-fit c = c.flat_transistor_has_letter_and_lengths.ensures

pub returns-in-Circuit-clause-written : goal.returns-in-Circuit-clause-written
returns-in-Circuit-clause-written c =
    let library = seen c.args.edited.now.library in
    let circuit = c.in-Circuit.circuit in
    let given : IsGiven HasSimFets (IsSimulableCircuitAt library c.args.cell.0) circuit = search rules in
    IfOk-weaker c.write_given.result _ _
    (λ written is. written_at Sim library c.args.cell.0 c.args.name.now (with_fets circuit given.0) written given.1.1.0 (is given.0 given.1.0))
    c.write_given.ensures.written
