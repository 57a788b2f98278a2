-- What is written of the circuits of cells.
use Rattle.extract_commands.proofs.Common.{ℕ, List, refl, inr, Circuit, LibraryView, IsOfInside, CircuitFile, Written, Stored, Passed, IsWritten}
use Rattle.extract_commands.proofs.Common.{lines_of, IsCircuitAt, IsWrittenAt}
use Rattle.uniqueness.proofs.CircuitCommands.CircuitInside.{written_inside}

-- what is written of the circuit of a cell
pub written_at : (file : CircuitFile) (library : LibraryView) (cell : ℕ) (name : List ℕ) (circuit : Circuit) (written : Written)
    → IsCircuitAt library cell circuit → IsWritten file name circuit written → IsWrittenAt file library cell name written
written_at file library cell name circuit (Stored lines store) at is = (circuit, at, is)
written_at file library cell name circuit (Passed limit) at is = inr (circuit, at, is)

-- its lines come from inside
pub written_at_inside : (file : CircuitFile) (number : ℕ) (library : LibraryView) (cell : ℕ) (name : List ℕ) (written : Written)
    → IsWrittenAt file library cell name written → IsOfInside (lines_of number written)
written_at_inside file number library cell name (Stored lines store) is = written_inside file number name is.0 (Stored lines store) is.2
written_at_inside file number library cell name (Passed limit) is = record { present = refl; fits = refl }
