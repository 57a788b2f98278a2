-- The classes of the full names of a tree of records.
use Rattle.std.specs.Prelude.{◌≡◌, ◌↔◌, ◌<◌, ◌+◌, ℕ, Some, None, List, [], length, slice_get, slice_index, slice_index_or}
use Rattle.partition.specs.Marks.{IsNumbered}
use Rattle.ext_model.specs.declared.records.MergeRec.{MergeRec}
use Rattle.circuit_model.specs.declared.faults.FlatFault.{FlatFault}
use Rattle.circuit_model.specs.Elements.{Element}
use Rattle.circuit_model.specs.FullNames.{name_in, AreOneNode}
use Rattle.circuit_model.specs.Refusals.{first_fault, element_fault}
use Rattle.full_names.specs.ElementTree.declared.tree.TreeElement.{TreeElement}
use Rattle.full_names.specs.declared.names.FullNames.{FullNames}
use Rattle.full_names.specs.NameLists.{IsFullNameList}
use Rattle.full_names.specs.Names.{elements_in, IsElement, IsSpotOf}
use Rattle.name_classes.specs.declared.classes.MergeEnd.{MergeEnd}
use Rattle.name_classes.specs.declared.classes.NameClasses.{NameClasses}

-- the number of the node that has the full name of this number
abbrev pub label_at : List ℕ → ℕ → ℕ
label_at labels number = slice_index labels number

-- the full name of this number
abbrev pub name_at : List (List ℕ) → ℕ → List ℕ
name_at list number = slice_index_or list number []

-- Two names have one label exactly where they are of one node, and the labels are numbered by the least name of each.
pub record AreLabels (elements : List Element) (list : List (List ℕ)) (labels : List ℕ) (count : ℕ) : Type 0 where
  pub long : length labels ≡ length list
  pub divides : (a b : ℕ) → a < length list → b < length list
      → (label_at labels a ≡ label_at labels b) ↔ AreOneNode elements (name_at list a) (name_at list b)
  pub numbered : IsNumbered labels count

-- where the first paths of a record's merges lead
abbrev pub firsts_of : List (List MergeEnd) → ℕ → List MergeEnd
firsts_of firsts cell = slice_index_or firsts cell []

-- From the element the first path of the merge leads to the element that the end says, and to the name there.
pub record EndsAt (names : FullNames) (number : ℕ) (element : Element) (merge : MergeRec) (end : MergeEnd) : Type 0 where
  pub below : Element
  pub flat : TreeElement
  pub name : List ℕ
  pub stands : IsElement names (number + end.step) below flat
  pub is_spot : IsSpotOf names flat.cell name end.spot
  pub full : name_in below name ≡ name_in element merge.first

-- The list has the end of each merge of the element's record, in their order.
pub record HasEnds (names : FullNames) (number : ℕ) (element : Element) (ends : List MergeEnd) : Type 0 where
  pub long : length ends ≡ length element.ext.merges
  pub each : (at : ℕ) (merge : MergeRec) (end : MergeEnd) → slice_get element.ext.merges at ≡ Some merge → slice_get ends at ≡ Some end
      → EndsAt names number element merge end

-- The classes are those of the names.
pub record AreClasses (names : FullNames) (classes : NameClasses) : Type 0 where
  pub labels : (list : List (List ℕ)) → IsFullNameList (elements_in names) list → AreLabels (elements_in names) list classes.labels classes.count
  pub long : length classes.firsts ≡ length names.exts.now
  pub ends : (number : ℕ) (element : Element) (flat : TreeElement) → IsElement names number element flat
      → HasEnds names number element (firsts_of classes.firsts flat.cell)

-- each path of each merge of the elements leads to a node
abbrev pub HasNoPathFault : FullNames → Type 0
HasNoPathFault names = first_fault (element_fault names.exts.now) (elements_in names) ≡ None

-- The first path that leads to no node is this fault.
abbrev pub IsPathFaultOf : FullNames → FlatFault → Type 0
IsPathFaultOf names fault = first_fault (element_fault names.exts.now) (elements_in names) ≡ Some fault
