-- The full names of a tree of records, and which of them are of one node.
use Rattle.std.specs.Prelude.{◌≡◌, ◌⊎◌, ℕ, List, map}
use Rattle.std.specs.declared.cmp.Ordering.TheVariants.{Less}
use Rattle.ext_model.specs.FiniteSets.Lists.{In}
use Rattle.ext_model.specs.FiniteSets.Chain.{Chain, EitherWay}
use Rattle.ext_model.specs.FiniteSets.Order.{IsInOrder}
use Rattle.ext_model.specs.declared.records.NodeRec.{NodeRec}
use Rattle.ext_model.specs.declared.records.MergeRec.{MergeRec}
use Rattle.ext_model.specs.NameOrder.{name_cmp}
use Rattle.ext_model.specs.Paths.{full_name}
use Rattle.ext_model.specs.RecordNames.{names_of, node_names}
use Rattle.circuit_model.specs.Elements.{Element, ids_of}

-- the full name of what has this name or path in the element
abbrev pub name_in : Element → List ℕ → List ℕ
name_in element path = full_name (ids_of element) path

-- the full names of the nodes of an element's record
abbrev pub full_names : Element → List (List ℕ)
full_names element = map (name_in element) (node_names element.ext)

-- a node of one of the elements has this full name
abbrev pub IsFullName : List Element → List ℕ → Type 0
IsFullName elements name = (element : Element) × (In element elements × In name (full_names element))

-- The first is the full name of a node's preferred name in the element, and the second that of one of the node's names.
pub record AreNamesOfOne (element : Element) (first second : List ℕ) : Type 0 where
  pub node : NodeRec
  pub within : In node element.ext.nodes
  pub preferred : first ≡ name_in element node.name
  pub named : In second (map (name_in element) (names_of node))

-- They are the full names of the two paths of a merge in the element.
pub record AreMerged (element : Element) (first second : List ℕ) : Type 0 where
  pub merge : MergeRec
  pub within : In merge element.ext.merges
  pub one : first ≡ name_in element merge.first
  pub other : second ≡ name_in element merge.second

-- the record of an element makes one node of the two full names
abbrev pub AreLinked : List Element → List ℕ → List ℕ → Type 0
AreLinked elements first second =
    (element : Element) × (In element elements × (AreNamesOfOne element first second ⊎ AreMerged element first second))

-- a chain of links, each taken either way, makes one node of the two full names
abbrev pub AreOneNode : List Element → List ℕ → List ℕ → Type 0
AreOneNode elements = Chain (EitherWay (AreLinked elements))

-- each name stands before the next in the name order
abbrev pub AreInNameOrder : List (List ℕ) → Type 0
AreInNameOrder names = IsInOrder (λ name next. name_cmp name next ≡ Less) names
