-- What flat circuits, and the faults that keep records from having one, are held to.
use Rattle.std.specs.Prelude.{◌≡◌, ℕ, List, Some, map}
use Rattle.finite_sets.specs.Chain.{Chain}
use Rattle.finite_sets.specs.Lists.{In}
use Rattle.ext_model.specs.declared.records.CellExt.{CellExt}
use Rattle.ext_model.specs.declared.circuits.Circuit.{Circuit}
use Rattle.circuit_commands.specs.CircuitModel.declared.faults.FlatFault.{FlatFault}
use Rattle.circuit_commands.specs.CircuitModel.Elements.{ext_of}
use Rattle.circuit_commands.specs.CircuitModel.Refusals.{IsFlatFaultOf, IsFlatOf}

-- the record of the first cell uses the second
abbrev pub UsesName : List CellExt → List ℕ → List ℕ → Type 0
UsesName exts cell other = (ext : CellExt) × (ext_of exts cell ≡ Some ext) × In other (map (λ used. used.cell) ext.uses)

-- the lists have one record of each cell to which uses lead from the root, or none
abbrev pub AgreeBelow : List CellExt → List CellExt → List ℕ → Type 0
AgreeBelow exts others root = (cell : List ℕ) → Chain (UsesName exts) root cell → ext_of exts cell ≡ ext_of others cell

-- lists of records that agree on what is reached from the root mean one circuit there, whatever else stands in them
abbrev pub FlatCircuitsAreUnique : Type 0
FlatCircuitsAreUnique =
    (exts others : List CellExt) (root : List ℕ) → AgreeBelow exts others root → (one other : Circuit) → IsFlatOf exts root one
    → IsFlatOf others root other → one ≡ other

-- or they have one fault
abbrev pub FlatFaultsAreUnique : Type 0
FlatFaultsAreUnique =
    (exts others : List CellExt) (root : List ℕ) → AgreeBelow exts others root → (fault other : FlatFault) → IsFlatFaultOf exts root fault
    → IsFlatFaultOf others root other → fault ≡ other

-- and not the one a circuit and the other a fault
abbrev pub FlatCircuitsHaveNoFault : Type 0
FlatCircuitsHaveNoFault =
    (exts others : List CellExt) (root : List ℕ) → AgreeBelow exts others root → (circuit : Circuit) (fault : FlatFault) → IsFlatOf exts root circuit
    → ¬ (IsFlatFaultOf others root fault)

-- nor the other way round
abbrev pub FaultyRecordsHaveNoCircuit : Type 0
FaultyRecordsHaveNoCircuit =
    (exts others : List CellExt) (root : List ℕ) → AgreeBelow exts others root → (circuit : Circuit) (fault : FlatFault)
    → IsFlatFaultOf exts root fault → ¬ (IsFlatOf others root circuit)
