-- What the record of a cell without uses is held to.
use Rattle.std.specs.Prelude.{◌≡◌, ◌⊎◌, ℕ, List, [], ◌∷◌, All}
use Rattle.tree_records.specs.TechModel.declared.raw.Label.{Label}
use Rattle.tree_records.specs.TechModel.declared.raw.RawTech.{RawTech}
use Rattle.tree_records.specs.TechModel.Rules.{KeepsRules}
use Rattle.tree_records.specs.TechModel.WellFormed.{IsWellFormed}
use Rattle.full_names.specs.ExtModel.declared.circuits.Circuit.{Circuit}
use Rattle.full_names.specs.ExtModel.declared.records.CellExt.{CellExt}
use Rattle.full_names.specs.ExtModel.Lawful.{IsLawful}
use Rattle.tree_records.specs.LayoutModel.LayerTypes.{HasTypesOf}
use Rattle.tree_records.specs.LayoutModel.Layouts.{Layout}
use Rattle.tree_records.specs.Names.Labels.{IsLabelOf}
use Rattle.tree_records.specs.CellPaint.Paints.{IsSoundPaint}
use Rattle.full_names.specs.CircuitModel.declared.faults.FlatFault.{FlatFault}
use Rattle.full_names.specs.CircuitModel.declared.faults.FlatFault.TheVariants.{TooMany}
use Rattle.full_names.specs.CircuitModel.declared.limits.CircuitLimit.TheVariants.{Nodes, Names}
use Rattle.full_names.specs.CircuitModel.Refusals.{IsFlatOf, IsFlatFaultOf}
use Rattle.tree_records.specs.OwnCircuits.{IsOwnCircuit}
use Rattle.tree_records.specs.OwnRecords.{IsOwnRecord}

-- the record of sound paint of a technology that keeps its rules, with labels of it, is lawful
abbrev pub OwnRecordsAreLawful : Type 0
OwnRecordsAreLawful =
    (raw : RawTech) (layout : Layout) (labels : List Label) (name : List ℕ) (ext : CellExt)
    → IsWellFormed raw → KeepsRules raw → IsSoundPaint raw.types layout → HasTypesOf raw layout → All (IsLabelOf raw) labels
    → IsOwnRecord raw layout labels name ext → IsLawful ext

-- what the record alone means is the circuit that the layout is
abbrev pub OwnRecordsMeanTheLayout : Type 0
OwnRecordsMeanTheLayout =
    (raw : RawTech) (layout : Layout) (labels : List Label) (name : List ℕ) (ext : CellExt) (circuit : Circuit)
    → IsLawful ext → IsOwnRecord raw layout labels name ext → IsFlatOf (ext ∷ []) name circuit → IsOwnCircuit raw layout labels circuit

-- the record alone has no other fault than too many nodes or too long names
abbrev pub OwnRecordsHaveNoOtherFault : Type 0
OwnRecordsHaveNoOtherFault =
    (raw : RawTech) (layout : Layout) (labels : List Label) (name : List ℕ) (ext : CellExt) (fault : FlatFault)
    → IsOwnRecord raw layout labels name ext → IsFlatFaultOf (ext ∷ []) name fault → (fault ≡ TooMany Nodes) ⊎ (fault ≡ TooMany Names)
