-- The sums of all nodes, by what is added to them.
use Rattle.std.specs.Prelude.{◌≡◌, ℕ, ◌+◌, ◌<◌, ◌≤◌, ◌==◌, if◌then◌else◌, Some, ℤ, pos, All, List, ◌++◌, length, map, slice_get}
use Rattle.finite_sets.specs.Total.{sum_on}
use Rattle.ext_model.specs.declared.records.NodeRec.{NodeRec}
use Rattle.ext_model.specs.declared.records.MergeRec.{MergeRec}
use Rattle.ext_model.specs.Lawful.{IsMeasure, AreMeasures}
use Rattle.ext_model.specs.RecordNames.{names_of}
use Rattle.circuit_model.specs.declared.limits.TheConstants.{MOST_NODES, MOST_MERGES}
use Rattle.circuit_model.specs.Elements.{Element}
use Rattle.circuit_model.specs.FullNames.{name_in}
use Rattle.circuit_model.specs.FlatNodes.{measure_of, sum_of}
use Rattle.name_classes.specs.FullNames.declared.names.FullNames.{FullNames}
use Rattle.name_classes.specs.FullNames.NameLists.{IsFullNameList}
use Rattle.name_classes.specs.FullNames.Names.{elements_in}
use Rattle.flatten.specs.steps.Labels.{label_of, group_of}
use Rattle.flatten.specs.steps.Spots.{element_at}
use Rattle.flatten.specs.declared.sums.NodeSum.{NodeSum}

-- A quantity that is summed: the capacitance, and the area and the perimeter in each class.
pub data Quantity : Type 0 where
  Capacitance : Quantity
  Area : ℕ → Quantity
  Perimeter : ℕ → Quantity

-- how much there is of the quantity
abbrev pub amount : Quantity → ℤ → List (ℤ × ℤ) → ℤ
amount Capacitance cap measures = cap
amount (Area class) cap measures = (measure_of class measures).0
amount (Perimeter class) cap measures = (measure_of class measures).1

-- the quantity is one of those of so many classes
abbrev pub IsCounted : ℕ → Quantity → Type 0
IsCounted classes Capacitance = Unit {0}
IsCounted classes (Area class) = class < classes
IsCounted classes (Perimeter class) = class < classes

-- What a record has of a node.
pub record Addend : Type 0 where
  pub node : ℕ
  pub cap : ℤ
  pub measures : List (ℤ × ℤ)

-- what it counts for the node of this number
abbrev pub counts_for : Quantity → ℕ → Addend → ℤ
counts_for quantity node addend = if addend.node == node then amount quantity addend.cap addend.measures else pos 0

-- what a node of an element's record has
abbrev pub node_addend : List (List ℕ) → List ℕ → Element → NodeRec → Addend
node_addend list labels element part = record {
  node = label_of list labels (name_in element part.name);
  cap = part.cap;
  measures = part.measures;
}

-- what a merge of it adds
abbrev pub merge_addend : List (List ℕ) → List ℕ → Element → MergeRec → Addend
merge_addend list labels element merge = record {
  node = label_of list labels (name_in element merge.first);
  cap = merge.cap;
  measures = merge.measures;
}

-- what the nodes of an element's record have
abbrev pub node_addends : List (List ℕ) → List ℕ → Element → List Addend
node_addends list labels element = map (node_addend list labels element) element.ext.nodes

-- what its merges add
abbrev pub merge_addends : List (List ℕ) → List ℕ → Element → List Addend
merge_addends list labels element = map (merge_addend list labels element) element.ext.merges

-- what an element's record has of all nodes
abbrev pub addends_in : List (List ℕ) → List ℕ → Element → List Addend
addends_in list labels element = node_addends list labels element ++ merge_addends list labels element

-- The sums of a node are those of what is added to it.
pub record AreSumsOf (classes : ℕ) (addends : List Addend) (node : ℕ) (sum : NodeSum) : Type 0 where
  pub measured : length sum.measures.items ≡ classes
  pub each : (quantity : Quantity) → IsCounted classes quantity → amount quantity sum.cap sum.measures.items ≡ sum_on (counts_for quantity node) addends

-- These are the sums of all nodes.
pub record HaveSums (count classes : ℕ) (addends : List Addend) (sums : List NodeSum) : Type 0 where
  pub long : length sums ≡ count
  pub each : (node : ℕ) (sum : NodeSum) → slice_get sums node ≡ Some sum → AreSumsOf classes addends node sum

-- What is added is within the range of records.
pub record IsLawfulAmount (classes : ℕ) (cap : ℤ) (measures : List (ℤ × ℤ)) : Type 0 where
  pub small : IsMeasure cap
  pub all_small : AreMeasures classes measures

abbrev pub AreLawfulAmounts : {X : Type 0} → ℕ → (X → ℤ) → (X → List (ℤ × ℤ)) → List X → Type 0
AreLawfulAmounts classes cap_of measures_of parts = All (λ part. IsLawfulAmount classes (cap_of part) (measures_of part)) parts

-- The sums are those of few enough addends that so many more fit.
pub record HaveRoomFor (more classes : ℕ) (sums : List NodeSum) : Type 0 where
  pub addends : List Addend
  pub have : HaveSums (length sums) classes addends sums
  pub lawful : All (λ addend. IsLawfulAmount classes addend.cap addend.measures) addends
  pub few : length addends + more ≤ MOST_NODES + MOST_MERGES

-- there is room for what nodes have
abbrev pub HaveRoomForNodes : List NodeRec → List NodeSum → Type 0
HaveRoomForNodes nodes sums =
    (classes : ℕ) × (HaveRoomFor (length nodes) classes sums × AreLawfulAmounts classes (λ node. node.cap) (λ node. node.measures) nodes)

-- there is room for what merges add
abbrev pub HaveRoomForMerges : List MergeRec → List NodeSum → Type 0
HaveRoomForMerges merges sums =
    (classes : ℕ) × (HaveRoomFor (length merges) classes sums × AreLawfulAmounts classes (λ merge. merge.cap) (λ merge. merge.measures) merges)

-- whatever the old sums are those of, the new ones are those of that and these addends
abbrev pub AddAll : List Addend → List NodeSum → List NodeSum → Type 0
AddAll more old new =
    (count classes : ℕ) (addends : List Addend) → HaveSums count classes addends old → HaveSums count classes (addends ++ more) new

-- the new sums are those with the nodes of an element
abbrev pub AddNodes : FullNames → List ℕ → ℕ → List NodeSum → List NodeSum → Type 0
AddNodes names labels number old new =
    (list : List (List ℕ)) → IsFullNameList (elements_in names) list → AddAll (node_addends list labels (element_at names number)) old new

-- the new sums are those with the merges of an element
abbrev pub AddMerges : FullNames → List ℕ → ℕ → List NodeSum → List NodeSum → Type 0
AddMerges names labels number old new =
    (list : List (List ℕ)) → IsFullNameList (elements_in names) list → AddAll (merge_addends list labels (element_at names number)) old new

-- The sums are what all elements have of the flat node.
pub record IsSumOf (elements : List Element) (classes : ℕ) (node : NodeRec) (sum : NodeSum) : Type 0 where
  pub cap : sum.cap ≡ sum_of node (λ part. part.cap) (λ merge. merge.cap) elements
  pub measured : length sum.measures.items ≡ classes
  pub areas : (class : ℕ) → class < classes
      → (measure_of class sum.measures.items).0
      ≡ sum_of node (λ part. (measure_of class part.measures).0) (λ merge. (measure_of class merge.measures).0) elements
  pub perimeters : (class : ℕ) → class < classes
      → (measure_of class sum.measures.items).1
      ≡ sum_of node (λ part. (measure_of class part.measures).1) (λ merge. (measure_of class merge.measures).1) elements

-- The sums are those of the nodes that have the names of groups.
pub record AreSums (elements : List Element) (list : List (List ℕ)) (labels : List ℕ) (count classes : ℕ) (sums : List NodeSum) : Type 0 where
  pub long : length sums ≡ count
  pub each : (number : ℕ) (sum : NodeSum) (node : NodeRec) → slice_get sums number ≡ Some sum → names_of node ≡ group_of list labels number
      → IsSumOf elements classes node sum

abbrev pub AreNodeSums : FullNames → List ℕ → ℕ → ℕ → List NodeSum → Type 0
AreNodeSums names labels count classes sums =
    (list : List (List ℕ)) → IsFullNameList (elements_in names) list → AreSums (elements_in names) list labels count classes sums
