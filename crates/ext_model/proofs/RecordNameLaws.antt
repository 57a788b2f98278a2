-- The names of the nodes of a lawful record, and its paths.
use Rattle.ext_model.proofs.Common.{◌≡◌, ℕ, ◌==◌, Bool, true, false, ◌&&◌, IsTrue, inl, inr, List, length, ap, arith, eqb-true, In, slashes_in}
use Rattle.ext_model.proofs.Common.{is_word, is_node_name, path_text}
use Rattle.std.proofs.lemmas.List.Elements.{All-contains}
use Rattle.geo_core.proofs.FiniteSets.Members.{Contains-from_In}
use Rattle.geo_core.proofs.FiniteSets.Images.{In-flat_map_source}
use Rattle.ext_model.specs.declared.records.CellExt.{CellExt}
use Rattle.ext_model.specs.RecordNames.{names_of, node_names}
use Rattle.ext_model.specs.Lawful.{IsLawful, IsLawfulNode}
use Rattle.ext_model.specs.RecordLaws.{PathsWithoutSlashNameNodes, PathsWithSlashLeadIntoElements}
use Rattle.ext_model.proofs.PathOrders.{slashes_in-behind}

-- each name of a node of a lawful record has the form of one
pub is_node_name-lawful : (ext : CellExt) → IsLawful ext → (name : List ℕ) → In name (node_names ext) → IsTrue (is_node_name name)
is_node_name-lawful ext lawful name here =
    let source = In-flat_map_source names_of name ext.nodes here in
    let node = All-contains (IsLawfulNode (length ext.classes)) ext.nodes source.0 lawful.nodes (Contains-from_In source.0 ext.nodes source.1.0) in
    All-contains (λ (word : List ℕ). IsTrue (is_node_name word)) (names_of source.0) name node.names (Contains-from_In name (names_of source.0) source.1.1)

second_true : (a b : Bool) → (a && b) ≡ true → b ≡ true
second_true true b both = both
second_true false b both = cc

-- the name of a node has no slash
pub slashes_in-node_name : (name : List ℕ) → IsTrue (is_node_name name) → slashes_in name ≡ 0
slashes_in-node_name name formed = eqb-true (slashes_in name) 0 (second_true (is_word name) (slashes_in name == 0) formed)

pub paths_without_slash_name_nodes : PathsWithoutSlashNameNodes
paths_without_slash_name_nodes ext path (inl node) none = node
paths_without_slash_name_nodes ext path (inr into) none =
    let some = slashes_in-behind into.id (path_text into.ids into.name) in
    let count = ap slashes_in into.text in
    absurd (omega (arith, some, count, none))

pub paths_with_slash_lead_into_elements : PathsWithSlashLeadIntoElements
paths_with_slash_lead_into_elements ext path lawful (inl node) some =
    let none = slashes_in-node_name path (is_node_name-lawful ext lawful path node) in
    absurd (omega (arith, none, some))
paths_with_slash_lead_into_elements ext path lawful (inr into) some = into
