-- The faults of numbers of nodes, of merges and of classes.
use Rattle.std.specs.Prelude.{◌≡◌, ℕ, Option, Some, None, List, slice_get}
use Rattle.ext_model.specs.declared.records.CellExt.{CellExt}
use Rattle.circuit_model.specs.declared.faults.FlatFault.{FlatFault}
use Rattle.circuit_model.specs.declared.limits.CircuitLimit.TheVariants.{Nodes, Merges}
use Rattle.circuit_model.specs.declared.limits.TheConstants.{MOST_NODES, MOST_MERGES}
use Rattle.circuit_model.specs.Elements.{elements_of}
use Rattle.circuit_model.specs.Refusals.{past, node_count, merge_count, first_fault, class_fault}

-- the node records are past their limit
abbrev pub node_fault : List CellExt → CellExt → Option FlatFault
node_fault exts top = past MOST_NODES Nodes (node_count (elements_of exts top))

abbrev pub HasNoNodeFault : List CellExt → ℕ → Type 0
HasNoNodeFault exts root = (top : CellExt) → slice_get exts root ≡ Some top → node_fault exts top ≡ None

abbrev pub IsNodeFaultOf : List CellExt → ℕ → FlatFault → Type 0
IsNodeFaultOf exts root fault = (top : CellExt) → slice_get exts root ≡ Some top → node_fault exts top ≡ Some fault

-- the merge records are past their limit
abbrev pub merge_fault : List CellExt → CellExt → Option FlatFault
merge_fault exts top = past MOST_MERGES Merges (merge_count (elements_of exts top))

abbrev pub HasNoMergeFault : List CellExt → ℕ → Type 0
HasNoMergeFault exts root = (top : CellExt) → slice_get exts root ≡ Some top → merge_fault exts top ≡ None

abbrev pub IsMergeFaultOf : List CellExt → ℕ → FlatFault → Type 0
IsMergeFaultOf exts root fault = (top : CellExt) → slice_get exts root ≡ Some top → merge_fault exts top ≡ Some fault

-- an element's record has another number of classes than the root's
abbrev pub classes_fault : List CellExt → CellExt → Option FlatFault
classes_fault exts top = first_fault (class_fault top) (elements_of exts top)

abbrev pub HasNoClassFault : List CellExt → ℕ → Type 0
HasNoClassFault exts root = (top : CellExt) → slice_get exts root ≡ Some top → classes_fault exts top ≡ None

abbrev pub IsClassFaultOf : List CellExt → ℕ → FlatFault → Type 0
IsClassFaultOf exts root fault = (top : CellExt) → slice_get exts root ≡ Some top → classes_fault exts top ≡ Some fault
