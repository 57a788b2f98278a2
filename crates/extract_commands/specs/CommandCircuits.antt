-- `flat c` and `sim c`: extract c, and store the flat file or the sim file of its circuit.
use Rattle.std.specs.Prelude.{◌≡◌, ◌⊎◌, ℕ, List, [], ◌++◌, Some}
use Rattle.session_model.specs.Effects.{Effect}
use Rattle.ext_model.specs.declared.circuits.Circuit.{Circuit}
use Rattle.layout_gen.specs.CellLibrary.Views.{LibraryView}
use Rattle.uniqueness.specs.CircuitCommands.declared.circuits.CircuitFile.{CircuitFile}
use Rattle.uniqueness.specs.CircuitCommands.declared.circuits.Written.{Written}
use Rattle.uniqueness.specs.CircuitCommands.declared.circuits.Written.TheVariants.{Stored, Passed}
use Rattle.uniqueness.specs.CircuitCommands.declared.limits.Limit.{Limit}
use Rattle.uniqueness.specs.CircuitCommands.declared.limits.Limit.TheVariants.{Circuit as OfCircuit}
use Rattle.uniqueness.specs.CircuitCommands.Circuits.{IsWritten, lines_of, stores_of}
use Rattle.workspace.specs.declared.extractions.Extraction.{Extraction}
use Rattle.workspace.specs.CellCircuits.{IsCircuitAt, PassesAt}
use Rattle.workspace.specs.Extractions.{IsExtraction, OnCell, RefusesUnclean, with_clean}
use Rattle.workspace.specs.States.{State, Workspace}

-- the limit is one of circuits, and the cell passes it
abbrev pub PassesCircuitLimit : LibraryView → ℕ → Limit → Type 0
PassesCircuitLimit library cell (OfCircuit limit) = PassesAt library cell limit
PassesCircuitLimit library cell _ = ⊥

-- what is written of the circuit of a cell, unless a limit is passed before
abbrev pub IsWrittenAt : CircuitFile → LibraryView → ℕ → List ℕ → Written → Type 0
IsWrittenAt file library cell name (Stored lines store) =
    (circuit : Circuit) × IsCircuitAt library cell circuit × IsWritten file name circuit (Stored lines store)
IsWrittenAt file library cell name (Passed limit) =
    PassesCircuitLimit library cell limit ⊎ ((circuit : Circuit) × IsCircuitAt library cell circuit × IsWritten file name circuit (Passed limit))

-- The cell is extracted, and then its circuit is written. Where it is refused then, its extraction stays done.
pub record WritesCircuit (file : CircuitFile) (number : ℕ) (name : List ℕ) (work : Workspace) (cell : ℕ)
    (effect : Effect State) : Type 0 where
  pub extraction : Extraction
  pub is_extraction : IsExtraction work cell extraction
  pub written : Written
  pub is_written : IsWrittenAt file work.editing.library cell name written
  pub is : effect ≡ record {
    state = Some (with_clean work is_extraction.order);
    lines = extraction.lines ++ lines_of number written;
    stores = extraction.stores ++ stores_of written;
    fetched = [];
  }

-- The circuit is written, or the line is refused since a cell at or below the cell is not clean.
abbrev pub CircuitMeans : CircuitFile → ℕ → State → List ℕ → Effect State → Type 0
CircuitMeans file number state name effect =
    OnCell number state name (λ work cell after. WritesCircuit file number name work cell after ⊎ RefusesUnclean number work [] cell after) effect
