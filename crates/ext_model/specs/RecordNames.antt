-- The names that a record of a cell has.
use Rattle.std.specs.Prelude.{ℕ, List, ◌∷◌, map}
use Rattle.std.specs.List.{flat_map}
use Rattle.ext_model.specs.declared.records.NodeRec.{NodeRec}
use Rattle.ext_model.specs.declared.records.CellExt.{CellExt}

-- all names of a node, the preferred one first
abbrev pub names_of : NodeRec → List (List ℕ)
names_of node = node.name ∷ node.aliases

-- all names of the nodes of a record
abbrev pub node_names : CellExt → List (List ℕ)
node_names ext = flat_map names_of ext.nodes

-- the names of the elements of a record
abbrev pub element_names : CellExt → List (List ℕ)
element_names ext = map (λ element. element.id) ext.uses
