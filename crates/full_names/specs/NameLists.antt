-- All full names of a tree of records, in order.
use Rattle.std.specs.Prelude.{◌≡◌, ◌↔◌, ◌≤◌, ℕ, Option, Some, None, List, slice_get}
use Rattle.ext_model.specs.FiniteSets.Lists.{In}
use Rattle.ext_model.specs.declared.records.CellExt.{CellExt}
use Rattle.circuit_model.specs.declared.faults.FlatFault.{FlatFault}
use Rattle.circuit_model.specs.declared.limits.CircuitLimit.TheVariants.{Names}
use Rattle.circuit_model.specs.declared.limits.TheConstants.{MOST_NODES, MOST_NAME_BYTES}
use Rattle.circuit_model.specs.Elements.{Element, elements_of}
use Rattle.circuit_model.specs.FullNames.{IsFullName, AreInNameOrder}
use Rattle.circuit_model.specs.Refusals.{past, name_bytes, node_count}

-- The list has each full name of the elements once, in name order, and nothing else.
pub record IsFullNameList (elements : List Element) (names : List (List ℕ)) : Type 0 where
  pub in_order : AreInNameOrder names
  pub all : (name : List ℕ) → In name names ↔ IsFullName elements name

abbrev pub HasFewNodes : List CellExt → ℕ → Type 0
HasFewNodes exts root = (top : CellExt) → slice_get exts root ≡ Some top → node_count (elements_of exts top) ≤ MOST_NODES

-- the full names are past their limit
abbrev pub name_fault : List CellExt → CellExt → Option FlatFault
name_fault exts top = past MOST_NAME_BYTES Names (name_bytes (elements_of exts top))

abbrev pub HasNoNameFault : List CellExt → ℕ → Type 0
HasNoNameFault exts root = (top : CellExt) → slice_get exts root ≡ Some top → name_fault exts top ≡ None

abbrev pub IsNameFaultOf : List CellExt → ℕ → FlatFault → Type 0
IsNameFaultOf exts root fault = (top : CellExt) → slice_get exts root ≡ Some top → name_fault exts top ≡ Some fault
