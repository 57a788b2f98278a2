-- What the commands answer that extract a cell.
use Rattle.extract_commands.proofs.Common.{◌≡◌, ◌⊎◌, ℕ, List, [], ◌∷◌, ◌++◌, Some, inl, inr, Answer, ReportLine, AnswersAlone, Effect, reply}
use Rattle.extract_commands.proofs.Common.{CircuitFile, Written, lines_of, stores_of, Done, Extraction, IsExtracted, RefusesUnclean, State}
use Rattle.extract_commands.proofs.Common.{Workspace, IsWrittenAt, WritesCircuit, ExtractsCell, extracted_text}
use Rattle.line_answers.proofs.AnswerLaws.{answers_with}
use Rattle.workspace.specs.declared.extractions.Extracting.TheVariants.{Refused}

-- a cell at or below the cell is not clean
pub refuses_cell : (number : ℕ) (work after : Workspace) (cell : ℕ) (lines : List ReportLine) (Means : Effect State → Type 0) (answer : Answer)
    → IsExtracted number work after cell (Refused lines) → answer.lines.items ≡ lines → answer.stores.items ≡ []
    → AnswersAlone (λ effect. Means effect ⊎ RefusesUnclean number work [] cell effect) (Some after) answer
refuses_cell number work after cell lines Means answer refuses lines_are stores_are =
    answers_with (λ effect. Means effect ⊎ RefusesUnclean number work [] cell effect) (Some after) answer lines [] [] lines_are stores_are
    (inr (refuses []))

-- `extract`: the cell was extracted
pub extracts_cell : (number : ℕ) (name : List ℕ) (work after : Workspace) (cell : ℕ) (extraction : Extraction) (answer : Answer)
    → IsExtracted number work after cell (Done extraction)
    → answer.lines.items ≡ extraction.lines ++ reply (extracted_text name extraction.count) ∷ [] → answer.stores.items ≡ extraction.stores
    → AnswersAlone (λ effect. ExtractsCell name work cell effect ⊎ RefusesUnclean number work [] cell effect) (Some after) answer
extracts_cell number name work after cell extraction answer is lines stores =
    inl (record {
      extraction = extraction;
      is_extraction = is.0;
      is = λ i. record { state = Some (is.1 i); lines = lines i; stores = stores i; fetched = [] };
    })

-- `flat` and `sim`: the cell was extracted, and this was written
pub writes_cell : (file : CircuitFile) (number : ℕ) (name : List ℕ) (work after : Workspace) (cell : ℕ) (extraction : Extraction) (written : Written)
    (answer : Answer) → IsExtracted number work after cell (Done extraction) → IsWrittenAt file work.editing.library cell name written
    → answer.lines.items ≡ extraction.lines ++ lines_of number written → answer.stores.items ≡ extraction.stores ++ stores_of written
    → AnswersAlone (λ effect. WritesCircuit file number name work cell effect ⊎ RefusesUnclean number work [] cell effect) (Some after) answer
writes_cell file number name work after cell extraction written answer is is_written lines stores =
    inl (record {
      extraction = extraction;
      is_extraction = is.0;
      written = written;
      is_written = is_written;
      is = λ i. record { state = Some (is.1 i); lines = lines i; stores = stores i; fetched = [] };
    })
