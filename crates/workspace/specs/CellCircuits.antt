-- The circuits of cells.
use Rattle.std.specs.Prelude.{ℕ, List, All}
use Rattle.ext_model.specs.declared.circuits.Circuit.{Circuit}
use Rattle.ext_model.specs.declared.records.CellExt.{CellExt}
use Rattle.ext_model.specs.declared.records.FetRec.{FetRec}
use Rattle.circuit_laws.specs.SimRecords.SimRecords.{HasLetterAndLengths}
use Rattle.circuit_model.specs.declared.faults.FlatFault.TheVariants.{TooMany as FlatTooMany}
use Rattle.circuit_model.specs.declared.limits.CircuitLimit.{CircuitLimit}
use Rattle.circuit_model.specs.Refusals.{IsFlatFaultOf, IsFlatOf}
use Rattle.flatten.specs.declared.sinks.GivenCircuit.{GivenCircuit}
use Rattle.flatten.specs.Sinks.{IsGiven}
use Rattle.ext_cache.specs.CellLibrary.Views.{LibraryView, view_at}
use Rattle.circuit_laws.specs.TreeRecords.TreeCircuits.{IsFlatCircuit}
use Rattle.circuit_laws.specs.TreeRecords.TreeRecords.{HasTreeRecords}
use Rattle.ext_cache.specs.LibraryTrees.NamedCells.{named_tree_at}
use Rattle.network_runs.specs.NetworkRuns.{CanBeSimulated}
use Rattle.workspace.specs.declared.cell_circuits.Flattened.{Flattened}
use Rattle.workspace.specs.declared.cell_circuits.Flattened.TheVariants.{Circuit as OneCircuit, Passed as TooMuch}

-- The circuit is that of the cell's layout painted flat, and what the records of the cell and of all below it mean.
pub record IsCircuitAt (library : LibraryView) (cell : ℕ) (circuit : Circuit) : Type 0 where
  pub exts : List CellExt
  pub are_records : HasTreeRecords library.tech exts (named_tree_at library cell)
  pub is_flat : IsFlatOf exts (view_at library cell).name circuit
  pub is_circuit : IsFlatCircuit library.tech (named_tree_at library cell) circuit

-- The cell passes a limit of circuits: the records of the cell and of all below it say so.
pub record PassesAt (library : LibraryView) (cell : ℕ) (limit : CircuitLimit) : Type 0 where
  pub exts : List CellExt
  pub are_records : HasTreeRecords library.tech exts (named_tree_at library cell)
  pub is_fault : IsFlatFaultOf exts (view_at library cell).name (FlatTooMany limit)

-- The circuit is that of the cell, sim records can be made of its transistors, and the network of these, unless there are too many switches, has
-- the nodes of the circuit.
abbrev pub IsSimulableCircuitAt : LibraryView → ℕ → Circuit → Type 0
IsSimulableCircuitAt library cell circuit = IsCircuitAt library cell circuit × All HasLetterAndLengths circuit.fets × CanBeSimulated circuit

-- what was flattened is something of which this holds, or the limit that the cell passes
abbrev pub HasOrPasses : {C : Type 0} → (C → Type 0) → LibraryView → ℕ → Flattened C → Type 0
HasOrPasses holds library cell (OneCircuit circuit) = holds circuit
HasOrPasses holds library cell (TooMuch limit) = PassesAt library cell limit

-- the circuit of the cell, of which sim records can be made and simulated; or the limit that it passes
abbrev pub IsFlattenedAt : LibraryView → ℕ → Flattened Circuit → Type 0
IsFlattenedAt library cell flattened = HasOrPasses (IsSimulableCircuitAt library cell) library cell flattened

-- the same with some transistors of which the sink says that it was given them
abbrev pub IsGivenAt : {S : Type 0} → (S → List ℕ → List FetRec → Type 0) → LibraryView → ℕ → Flattened (GivenCircuit S) → Type 0
IsGivenAt has library cell flattened = HasOrPasses (IsGiven has (IsSimulableCircuitAt library cell)) library cell flattened
