-- The faults of a tree of records by the stages in which they are found.
use Rattle.std.specs.Prelude.{◌≡◌, ℕ, Option, Some, None, List, slice_get}
use Rattle.std.specs.Option.{option_or}
use Rattle.ext_model.specs.declared.records.CellExt.{CellExt}
use Rattle.ext_model.specs.declared.circuits.Circuit.{Circuit}
use Rattle.circuit_model.specs.declared.faults.FlatFault.{FlatFault}
use Rattle.circuit_model.specs.Circuits.{IsMeaning}
use Rattle.circuit_model.specs.Elements.{elements_of}
use Rattle.circuit_model.specs.Refusals.{walk_fault, first_fault, element_fault}
use Rattle.element_tree.specs.Trees.{tree_fault}
use Rattle.name_classes.specs.FullNames.NameLists.{name_fault}
use Rattle.plain_records.specs.FlatLimits.Counts.{node_fault, merge_fault, classes_fault}

-- the root's record has no fault of a kind
abbrev pub HasNone : (List CellExt → CellExt → Option FlatFault) → List CellExt → ℕ → Type 0
HasNone fault_of exts root = (top : CellExt) → slice_get exts root ≡ Some top → fault_of exts top ≡ None

-- this is the fault of a kind that it has
abbrev pub IsFaultAt : (List CellExt → CellExt → Option FlatFault) → List CellExt → ℕ → FlatFault → Type 0
IsFaultAt fault_of exts root fault = (top : CellExt) → slice_get exts root ≡ Some top → fault_of exts top ≡ Some fault

-- a use leads nowhere or back, or there are too many cells in a chain or elements
abbrev pub use_fault : List CellExt → CellExt → Option FlatFault
use_fault exts top = option_or (walk_fault exts top) (tree_fault exts top)

-- there are too many nodes, bytes of names or merges
abbrev pub number_fault : List CellExt → CellExt → Option FlatFault
number_fault exts top = option_or (node_fault exts top) (option_or (name_fault exts top) (merge_fault exts top))

-- an element has another number of classes, or a path that leads nowhere
abbrev pub late_fault : List CellExt → CellExt → Option FlatFault
late_fault exts top = option_or (classes_fault exts top) (first_fault (element_fault exts) (elements_of exts top))

abbrev pub HasNoUseFault : List CellExt → ℕ → Type 0
HasNoUseFault exts root = HasNone use_fault exts root

abbrev pub IsUseFaultOf : List CellExt → ℕ → FlatFault → Type 0
IsUseFaultOf exts root fault = IsFaultAt use_fault exts root fault

abbrev pub HasNoCountFault : List CellExt → ℕ → Type 0
HasNoCountFault exts root = HasNone number_fault exts root

abbrev pub IsCountFaultOf : List CellExt → ℕ → FlatFault → Type 0
IsCountFaultOf exts root fault = IsFaultAt number_fault exts root fault

abbrev pub HasNoLateFault : List CellExt → ℕ → Type 0
HasNoLateFault exts root = HasNone late_fault exts root

abbrev pub IsLateFaultOf : List CellExt → ℕ → FlatFault → Type 0
IsLateFaultOf exts root fault = IsFaultAt late_fault exts root fault

-- the circuit is what the records mean with this one at the root
abbrev pub IsMeantAt : List CellExt → ℕ → Circuit → Type 0
IsMeantAt exts root circuit = (top : CellExt) → slice_get exts root ≡ Some top → IsMeaning exts top circuit
