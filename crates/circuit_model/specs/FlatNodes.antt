-- The nodes of a flat circuit.
use Rattle.std.specs.Prelude.{◌≡◌, ◌↔◌, ◌<◌, ℕ, Bool, if◌then◌else◌, Some, ℤ, pos, ◌+ℤ◌, List, length, map, find, slice_index_or}
use Rattle.std.specs.List.{list_any}
use Rattle.std.specs.Str.{bytes_eq}
use Rattle.ext_model.specs.FiniteSets.Lists.{In}
use Rattle.ext_model.specs.FiniteSets.Total.{sum_on}
use Rattle.ext_model.specs.declared.records.NodeRec.{NodeRec}
use Rattle.ext_model.specs.declared.records.MergeRec.{MergeRec}
use Rattle.ext_model.specs.RecordNames.{names_of}
use Rattle.circuit_model.specs.Elements.{Element, placed}
use Rattle.circuit_model.specs.FullNames.{name_in, full_names, IsFullName, AreOneNode, AreInNameOrder}

-- the name stands among the names
abbrev pub is_among : List (List ℕ) → List ℕ → Bool
is_among names name = list_any (bytes_eq name) names

-- the flat node has this full name
abbrev pub has_name : NodeRec → List ℕ → Bool
has_name node name = is_among (names_of node) name

-- What the record of an element has of a flat node: what its nodes have whose names are the flat node's, and what its merges add whose
-- first path is.
abbrev pub share_of : NodeRec → (NodeRec → ℤ) → (MergeRec → ℤ) → Element → ℤ
share_of node of_node of_merge element =
    sum_on (λ part. if has_name node (name_in element part.name) then of_node part else pos 0) element.ext.nodes
    +ℤ sum_on (λ merge. if has_name node (name_in element merge.first) then of_merge merge else pos 0) element.ext.merges

-- what all elements have of a flat node
abbrev pub sum_of : NodeRec → (NodeRec → ℤ) → (MergeRec → ℤ) → List Element → ℤ
sum_of node of_node of_merge elements = sum_on (share_of node of_node of_merge) elements

-- the area and the perimeter in a class
abbrev pub measure_of : ℕ → List (ℤ × ℤ) → ℤ × ℤ
measure_of class measures = slice_index_or measures class (pos 0, pos 0)

-- The node of the record has this full name in the element.
abbrev pub gives_name : Element → List ℕ → NodeRec → Bool
gives_name element name part = is_among (map (name_in element) (names_of part)) name

-- The flat node has the point, taken to the root, and the kind of the record that has its preferred name, as preferred name or as alias,
-- in the first element that has one.
pub record IsPlaced (elements : List Element) (node : NodeRec) : Type 0 where
  pub element : Element
  pub part : NodeRec
  pub first : find (λ element. is_among (full_names element) node.name) elements ≡ Some element
  pub carrier : find (gives_name element node.name) element.ext.nodes ≡ Some part
  pub point : record { x = node.x; y = node.y } ≡ placed element.uses (record { x = part.x; y = part.y })
  pub kind : node.kind ≡ part.kind

-- The flat node has all full names that are of one node with its preferred name, which is the least of them, and of each quantity
-- what all elements have of it.
pub record IsFlatNode (elements : List Element) (classes : ℕ) (node : NodeRec) : Type 0 where
  pub in_order : AreInNameOrder (names_of node)
  pub names : (name : List ℕ) → In name (names_of node) ↔ (IsFullName elements name × AreOneNode elements node.name name)
  pub place : IsPlaced elements node
  pub cap : node.cap ≡ sum_of node (λ part. part.cap) (λ merge. merge.cap) elements
  pub measured : length node.measures ≡ classes
  pub areas : (class : ℕ) → class < classes
      → (measure_of class node.measures).0
      ≡ sum_of node (λ part. (measure_of class part.measures).0) (λ merge. (measure_of class merge.measures).0) elements
  pub perimeters : (class : ℕ) → class < classes
      → (measure_of class node.measures).1
      ≡ sum_of node (λ part. (measure_of class part.measures).1) (λ merge. (measure_of class merge.measures).1) elements

-- The nodes are those of a tree with these elements: each is a flat node, each full name is one's, and they stand in the name order
-- of their preferred names.
pub record AreFlatNodes (elements : List Element) (classes : ℕ) (nodes : List NodeRec) : Type 0 where
  pub in_order : AreInNameOrder (map (λ node. node.name) nodes)
  pub sound : (node : NodeRec) → In node nodes → IsFlatNode elements classes node
  pub total : (name : List ℕ) → IsFullName elements name → (node : NodeRec) × (In node nodes × In name (names_of node))
