-- The circuit that the records of a tree mean is that of the flat layout.
use Rattle.tree_circuits.proofs.Common.{◌∙◌, length, elements_of}
use Rattle.tree_circuits.proofs.TreeNames.TreeElements.{elements_for, record_is, top_record}
use Rattle.tree_circuits.proofs.RecordFets.{fets_of_records}
use Rattle.tree_circuits.proofs.FlatNodes.{flat_nodes_are}
use Rattle.tree_circuits.specs.Laws.{RecordsStandForTheFlatLayout}

-- the nodes and the transistors are those of the flat layout, and the technology and the classes are the layout's
pub circuit_is_flat : RecordsStandForTheFlatLayout
circuit_is_flat raw exts tree root circuit formed rules is has found deep meaning =
    let of = record_is raw exts tree root (top_record raw exts tree has) found in
    let nodes = flat_nodes_are raw exts tree root circuit.nodes formed rules is has found deep meaning.nodes in
    record {
      tech = meaning.tech ∙ of.tech;
      classes = meaning.classes ∙ of.classes;
      sound = nodes.sound;
      whole = nodes.whole;
      in_order = nodes.in_order;
      fets = fets_of_records raw formed rules tree is exts has (elements_of exts root) (elements_for raw exts tree root has found deep)
          (length root.classes) circuit.nodes circuit.fets meaning.nodes meaning.fets;
    }
