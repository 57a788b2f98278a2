-- The flat circuit that a tree of records means.
use Rattle.std.specs.Prelude.{◌≡◌, List, length}
use Rattle.ext_model.specs.declared.records.CellExt.{CellExt}
use Rattle.ext_model.specs.declared.circuits.Circuit.{Circuit}
use Rattle.circuit_model.specs.Elements.{Element, elements_of}
use Rattle.circuit_model.specs.FlatNodes.{AreFlatNodes}
use Rattle.circuit_model.specs.FlatFets.{fets_of, AreFlatFets}

-- The circuit is what elements mean whose root has this record.
pub record IsCircuitOf (elements : List Element) (root : CellExt) (circuit : Circuit) : Type 0 where
  pub tech : circuit.tech ≡ root.tech
  pub classes : circuit.classes ≡ root.classes
  pub nodes : AreFlatNodes elements (length root.classes) circuit.nodes
  pub fets : AreFlatFets circuit.nodes (fets_of elements) circuit.fets

-- the circuit is what the records mean with this one at the root
abbrev pub IsMeaning : List CellExt → CellExt → Circuit → Type 0
IsMeaning exts root circuit = IsCircuitOf (elements_of exts root) root circuit
