use Rattle.extract_commands.proofs.CircuitEffects.{same_circuit_command}
use Rattle.extract_commands.proofs.OnCells.{same_extract}
use Rattle.extract_commands.proofs.RunEffects.{same_vectors}
use Rattle.extract_commands.proofs.StackEffects.{same_generate}
use Rattle.extract_commands.proofs.laws.extracting_lines_have_one_effect.Goals as goal

pub returns : goal.returns
returns c =
    let extracted = c.extractions_are_unique.ensures in
    let flattened = c.cell_circuits_are_unique.ensures in
    let answered = c.circuit_answers_are_unique.ensures in
    record {
      extract = same_extract extracted.extractions extracted.refusals extracted.either;
      circuit = same_circuit_command flattened.circuits flattened.limits flattened.either c.written_circuits_are_unique.ensures extracted.extractions
          extracted.refusals extracted.either;
      vectors = same_vectors flattened.circuits flattened.limits flattened.either answered extracted.extractions extracted.refusals extracted.either;
      generate = same_generate flattened.circuits flattened.limits flattened.either answered extracted.extractions extracted.refusals extracted.either;
    }
