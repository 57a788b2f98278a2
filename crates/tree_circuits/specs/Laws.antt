-- The laws of circuits of cells that use each other, as statements.
use Rattle.std.specs.Prelude.{◌≡◌, ◌⊎◌, ◌≤◌, List, Some, length}
use Rattle.tree_names.specs.TechModel.declared.raw.RawTech.{RawTech}
use Rattle.tree_names.specs.TechModel.Rules.{KeepsRules}
use Rattle.tree_names.specs.TechModel.WellFormed.{IsWellFormed}
use Rattle.tree_names.specs.ExtModel.declared.circuits.Circuit.{Circuit}
use Rattle.tree_names.specs.ExtModel.declared.records.CellExt.{CellExt}
use Rattle.tree_names.specs.CircuitModel.declared.faults.FlatFault.{FlatFault}
use Rattle.tree_names.specs.CircuitModel.declared.faults.FlatFault.TheVariants.{TooMany}
use Rattle.tree_names.specs.CircuitModel.declared.limits.CircuitLimit.TheVariants.{Names, Nodes}
use Rattle.tree_names.specs.CircuitModel.declared.limits.TheConstants.{LONGEST_CHAIN, MOST_FLAT_ELEMENTS}
use Rattle.tree_names.specs.CircuitModel.Circuits.{IsMeaning}
use Rattle.tree_names.specs.CircuitModel.Elements.{ext_of}
use Rattle.tree_names.specs.CircuitModel.Refusals.{IsFlatFaultOf}
use Rattle.tree_circuits.specs.TreeRecords.NamedTrees.{NamedTree, named_standings, own_body}
use Rattle.tree_circuits.specs.TreeRecords.TreeCircuits.{IsFlatCircuit}
use Rattle.tree_circuits.specs.TreeRecords.TreeRecords.{HasTreeRecords}
use Rattle.tree_circuits.specs.TreeNames.CleanTrees.{IsCleanTree, depth_of}

-- the circuit that the records of a clean cell and of all below it mean is that of its flat layout
abbrev pub RecordsStandForTheFlatLayout : Type 0
RecordsStandForTheFlatLayout =
    (raw : RawTech) (exts : List CellExt) (tree : NamedTree) (root : CellExt) (circuit : Circuit) → IsWellFormed raw → KeepsRules raw
    → IsCleanTree raw tree → HasTreeRecords raw exts tree → ext_of exts (own_body tree).name ≡ Some root → depth_of tree ≤ LONGEST_CHAIN
    → IsMeaning exts root circuit → IsFlatCircuit raw tree circuit

-- the records of a clean cell and of all below it, where the chains and the instances are no more than may be, have no other fault than too
-- many nodes or too long names
abbrev pub TreeRecordsHaveNoOtherFault : Type 0
TreeRecordsHaveNoOtherFault =
    (raw : RawTech) (exts : List CellExt) (tree : NamedTree) (fault : FlatFault) → IsWellFormed raw → IsCleanTree raw tree
    → HasTreeRecords raw exts tree → depth_of tree ≤ LONGEST_CHAIN → length (named_standings tree) ≤ MOST_FLAT_ELEMENTS
    → IsFlatFaultOf exts (own_body tree).name fault → (fault ≡ TooMany Nodes) ⊎ (fault ≡ TooMany Names)
