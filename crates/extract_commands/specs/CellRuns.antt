-- What the commands have in common that run something on the network of a cell's circuit.
use Rattle.std.specs.Prelude.{◌≡◌, ◌⊎◌, ℕ, List, [], ◌∷◌, ◌++◌, Some}
use Rattle.session_model.specs.declared.report.ReportLine.{ReportLine}
use Rattle.session_model.specs.Effects.{Effect}
use Rattle.line_answers.specs.Refusals.{refusal_line, too_many}
use Rattle.ext_model.specs.declared.circuits.Circuit.{Circuit}
use Rattle.circuit_model.specs.declared.limits.CircuitLimit.{CircuitLimit}
use Rattle.layout_gen.specs.CellLibrary.Views.{LibraryView}
use Rattle.uniqueness.specs.CircuitCommands.Refusals.{circuit_limit_word}
use Rattle.workspace.specs.NetworkRuns.declared.network_runs.NetworkRun.{NetworkRun}
use Rattle.workspace.specs.NetworkRuns.NetworkRuns.{TellsCircuit}
use Rattle.workspace.specs.declared.extractions.Extraction.{Extraction}
use Rattle.workspace.specs.CellCircuits.{IsCircuitAt, PassesAt}
use Rattle.workspace.specs.Extractions.{IsExtraction, RefusesUnclean, with_clean}
use Rattle.workspace.specs.States.{State, Workspace}

-- The cell has too many nodes for a circuit, or too long names.
pub record TellsLimit (number : ℕ) (library : LibraryView) (cell : ℕ) (lines : List ReportLine) : Type 0 where
  pub limit : CircuitLimit
  pub passes : PassesAt library cell limit
  pub are : lines ≡ refusal_line number (too_many (circuit_limit_word limit)) ∷ []

-- The cell has a circuit.
pub record TellsCell (run : NetworkRun) (budget number : ℕ) (library : LibraryView) (cell : ℕ) (lines : List ReportLine) : Type 0 where
  pub circuit : Circuit
  pub is_circuit : IsCircuitAt library cell circuit
  pub tells : TellsCircuit run budget number circuit lines

-- What answers the run on the circuit of a cell.
abbrev pub TellsAt : NetworkRun → ℕ → ℕ → LibraryView → ℕ → List ReportLine → Type 0
TellsAt run budget number library cell lines = TellsLimit number library cell lines ⊎ TellsCell run budget number library cell lines

-- The cell is extracted, and then this is run. Where it is refused then, the extraction stays done.
pub record RunsCell (run : NetworkRun) (budget number : ℕ) (fetched : List (List ℕ)) (work : Workspace) (cell : ℕ) (effect : Effect State)
    : Type 0 where
  pub extraction : Extraction
  pub is_extraction : IsExtraction work cell extraction
  pub lines : List ReportLine
  pub tells : TellsAt run budget number work.editing.library cell lines
  pub is : effect ≡ record {
    state = Some (with_clean work is_extraction.order);
    lines = extraction.lines ++ lines;
    stores = extraction.stores;
    fetched = fetched;
  }

-- A cell at or below the cell may be not clean.
abbrev pub RunsExtracted : NetworkRun → ℕ → ℕ → List (List ℕ) → Workspace → ℕ → Effect State → Type 0
RunsExtracted run budget number fetched work cell effect =
    RunsCell run budget number fetched work cell effect ⊎ RefusesUnclean number work fetched cell effect
