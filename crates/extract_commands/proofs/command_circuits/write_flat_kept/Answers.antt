use Rattle.extract_commands.proofs.Common.{rules, IfOk-weaker, seen, IsSimulableCircuitAt}
use Rattle.uniqueness.specs.CircuitCommands.declared.circuits.CircuitFile.TheVariants.{Flat}
use Rattle.extract_commands.proofs.CircuitLaws.{written_at}
use Rattle.extract_commands.proofs.command_circuits.write_flat_kept.Goals as goal

pub returns-in-Circuit-clause-written : goal.returns-in-Circuit-clause-written
returns-in-Circuit-clause-written c =
    let flat : IsSimulableCircuitAt (seen c.args.edited.now.library) c.args.cell.0 c.in-Circuit.circuit = search rules in
    IfOk-weaker c.write_flat_file.result _ _
    (λ written is. written_at Flat (seen c.args.edited.now.library) c.args.cell.0 c.args.name.now c.in-Circuit.circuit written flat.0 is)
    c.write_flat_file.ensures.written
