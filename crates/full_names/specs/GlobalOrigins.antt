-- The global names of elements, and where each comes from.
use Rattle.std.specs.Prelude.{◌≡◌, ◌≤◌, ℕ, true, Some, List, slice_get}
use Rattle.ext_model.specs.FiniteSets.Lists.{In}
use Rattle.ext_model.specs.declared.records.NodeRec.{NodeRec}
use Rattle.ext_model.specs.RecordNames.{names_of, node_names}
use Rattle.circuit_model.specs.Elements.{Element}
use Rattle.circuit_model.specs.FullNames.{AreInNameOrder}
use Rattle.full_names.specs.declared.globals.GlobalName.{GlobalName}
use Rattle.full_names.specs.OwnNames.{is_marked}
use Rattle.full_names.specs.Globals.{global_texts}

-- The name is a global one of a node of the element that it tells, and no element before has it.
pub record IsGlobalOf (elements : List Element) (name : GlobalName) : Type 0 where
  pub element : Element
  pub stands : slice_get elements name.element ≡ Some element
  pub node : NodeRec
  pub node_stands : slice_get element.ext.nodes name.node ≡ Some node
  pub named : In name.text.now (names_of node)
  pub marked : is_marked name.text.now ≡ true
  pub first : (number : ℕ) (other : Element) → slice_get elements number ≡ Some other → In name.text.now (node_names other.ext) → name.element ≤ number

-- The names are all global ones of the elements, in name order.
pub record AreGlobalsOf (elements : List Element) (names : List GlobalName) : Type 0 where
  pub each : (name : GlobalName) → In name names → IsGlobalOf elements name
  pub all : (number : ℕ) (element : Element) → slice_get elements number ≡ Some element → (text : List ℕ) → In text (node_names element.ext)
      → is_marked text ≡ true → In text (global_texts names)
  pub in_order : AreInNameOrder (global_texts names)
