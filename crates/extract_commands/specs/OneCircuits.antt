-- What the circuit of a cell, and the limit that it would pass, are held to. The cell is to be clean.
use Rattle.std.specs.Prelude.{◌≡◌, ◌<◌, ℕ, length}
use Rattle.ext_model.specs.declared.circuits.Circuit.{Circuit}
use Rattle.circuit_model.specs.declared.limits.CircuitLimit.{CircuitLimit}
use Rattle.layout_gen.specs.CellLibrary.Views.{LibraryView}
use Rattle.workspace.specs.LibraryAnswers.HierMerge.UncleanCells.{IsCleanCell}
use Rattle.workspace.specs.CellCircuits.{IsCircuitAt, PassesAt}
use Rattle.layout_gen.specs.CellLibrary.LawfulViews.{IsSoundView}

-- a clean cell of a lawful library has one circuit
abbrev pub CellCircuitsAreUnique : Type 0
CellCircuitsAreUnique =
    (view : LibraryView) (cell : ℕ) (circuit other : Circuit) → IsSoundView view → cell < length view.cells → IsCleanCell view cell
    → IsCircuitAt view cell circuit → IsCircuitAt view cell other → circuit ≡ other

-- or it passes one limit
abbrev pub CellLimitsAreUnique : Type 0
CellLimitsAreUnique =
    (view : LibraryView) (cell : ℕ) (limit other : CircuitLimit) → IsSoundView view → cell < length view.cells → IsCleanCell view cell
    → PassesAt view cell limit → PassesAt view cell other → limit ≡ other

-- and not both
abbrev pub CellCircuitsPassNoLimit : Type 0
CellCircuitsPassNoLimit =
    (view : LibraryView) (cell : ℕ) (circuit : Circuit) (limit : CircuitLimit) → IsSoundView view → cell < length view.cells
    → IsCleanCell view cell → IsCircuitAt view cell circuit → ¬ (PassesAt view cell limit)
