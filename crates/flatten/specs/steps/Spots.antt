-- Where the names of records stand, and which nodes they are of.
use Rattle.std.specs.Prelude.{◌≡◌, ◌<◌, ℕ, true, Bool, Some, List, [], length, map, slice_get, slice_index, slice_index_or}
use Rattle.finite_sets.specs.Lists.{In}
use Rattle.ext_model.specs.declared.records.NodeRec.{NodeRec}
use Rattle.ext_model.specs.declared.records.FetRec.{FetRec}
use Rattle.ext_model.specs.declared.records.CellExt.{CellExt}
use Rattle.ext_model.specs.RecordNames.{node_names}
use Rattle.circuit_model.specs.Elements.{Element}
use Rattle.circuit_model.specs.FullNames.{name_in}
use Rattle.name_classes.specs.FullNames.declared.names.FullNames.{FullNames}
use Rattle.name_classes.specs.FullNames.declared.names.Spot.{Spot}
use Rattle.name_classes.specs.FullNames.NameLists.{IsFullNameList}
use Rattle.name_classes.specs.FullNames.Names.{elements_in, IsReached, IsSpotOf}
use Rattle.name_classes.specs.Classes.{AreLabels}
use Rattle.flatten.specs.declared.spots.FetSpots.{FetSpots}
use Rattle.flatten.specs.declared.spots.CellSpots.{CellSpots}
use Rattle.flatten.specs.steps.Labels.{label_of, AreNamed}

-- The two lists are as long, and what stands at one place of both is related.
pub record AreAlong {X Y : Type 0} (R : X → Y → Type 0) (xs : List X) (ys : List Y) : Type 0 where
  pub long : length ys ≡ length xs
  pub each : (at : ℕ) (x : X) (y : Y) → slice_get xs at ≡ Some x → slice_get ys at ≡ Some y → R x y

-- what stands for an element where there is none
abbrev pub no_element : Element
no_element = record {
  uses = [];
  ext = record { cell = []; tech = []; classes = []; uses = []; nodes = []; fets = []; merges = [] };
}

-- the element of this number
abbrev pub element_at : FullNames → ℕ → Element
element_at names number = slice_index_or (elements_in names) number no_element

-- the number of the record of the element of this number
abbrev pub cell_at : FullNames → ℕ → ℕ
cell_at names number = slice_index (map (λ flat. flat.cell) names.tree.now.elements) number

-- The record of the element has a name with this spot.
abbrev pub HasSpotAt : FullNames → ℕ → Spot → Type 0
HasSpotAt names number spot = (name : List ℕ) × IsSpotOf names (cell_at names number) name spot

-- The number is the label of the full name that the spot's name has in the element.
abbrev pub GivesNode : FullNames → List ℕ → ℕ → Spot → ℕ → Type 0
GivesNode names labels number spot node =
    (list : List (List ℕ)) → IsFullNameList (elements_in names) list → (name : List ℕ) → IsSpotOf names (cell_at names number) name spot
    → node ≡ label_of list labels (name_in (element_at names number) name)

-- the number is one of the labels
abbrev pub IsLabel : List ℕ → ℕ → Type 0
IsLabel labels node = (at : ℕ) × ((at < length labels) × (slice_index labels at ≡ node))

-- An element has the record, which is this one.
pub record IsCellOf (names : FullNames) (cell : ℕ) (ext : CellExt) : Type 0 where
  pub found : slice_get names.exts.now cell ≡ Some ext
  pub reached : IsReached names cell

-- An element has the record, and a node of the record has the name.
pub record HasName (names : FullNames) (cell : ℕ) (name : List ℕ) : Type 0 where
  pub ext : CellExt
  pub is : IsCellOf names cell ext
  pub named : In name (node_names ext)

abbrev pub HasNames : FullNames → ℕ → List (List ℕ) → Type 0
HasNames names cell texts = (text : List ℕ) → In text texts → HasName names cell text

-- The record has the names beside the transistor.
pub record HasFetNames (names : FullNames) (cell : ℕ) (fet : FetRec) : Type 0 where
  pub gate : HasName names cell fet.gate.node
  pub terminals : HasNames names cell (map (λ side. side.node) fet.terminals)

-- the spots are those of the names, in their order
abbrev pub AreSpotsOf : FullNames → ℕ → List (List ℕ) → List Spot → Type 0
AreSpotsOf names cell texts spots = AreAlong (IsSpotOf names cell) texts spots

-- The spots are those beside the transistor.
pub record AreFetSpots (names : FullNames) (cell : ℕ) (fet : FetRec) (spots : FetSpots) : Type 0 where
  pub gate : IsSpotOf names cell fet.gate.node spots.gate
  pub terminals : AreSpotsOf names cell (map (λ side. side.node) fet.terminals) spots.terminals

-- the spots are those beside the transistors, in their order
abbrev pub AreFetSpotsOf : FullNames → ℕ → List FetRec → List FetSpots → Type 0
AreFetSpotsOf names cell fets spots = AreAlong (AreFetSpots names cell) fets spots

-- The spots are those of the record.
pub record AreSpotsIn (names : FullNames) (cell : ℕ) (ext : CellExt) (spots : CellSpots) : Type 0 where
  pub nodes : AreSpotsOf names cell (map (λ node. node.name) ext.nodes) spots.nodes
  pub fets : AreFetSpotsOf names cell ext.fets spots.fets

-- Of the record of each element there are the spots.
pub record AreCellSpots (names : FullNames) (spots : List CellSpots) : Type 0 where
  pub long : length spots ≡ length names.exts.now
  pub each : (number : ℕ) (one : CellSpots) → number < length (elements_in names) → slice_get spots (cell_at names number) ≡ Some one
      → AreSpotsIn names (cell_at names number) (element_at names number).ext one

-- At each record it is told whether an element has it.
pub record AreReached (names : FullNames) (reached : List Bool) : Type 0 where
  pub long : length reached ≡ length names.exts.now
  pub sound : (cell : ℕ) → slice_get reached cell ≡ Some true → IsReached names cell
  pub whole : (number : ℕ) → number < length (elements_in names) → slice_get reached (cell_at names number) ≡ Some true

-- there is a label for each full name
abbrev pub HaveLabels : FullNames → List ℕ → Type 0
HaveLabels names labels = (list : List (List ℕ)) → IsFullNameList (elements_in names) list → length labels ≡ length list

-- the labels are those of the full names
abbrev pub AreLabelsOf : FullNames → List ℕ → ℕ → Type 0
AreLabelsOf names labels count =
    (list : List (List ℕ)) → IsFullNameList (elements_in names) list → AreLabels (elements_in names) list labels count

-- the nodes have the names of the groups, in their order
abbrev pub AreNamedOf : FullNames → List ℕ → ℕ → List NodeRec → Type 0
AreNamedOf names labels count nodes = (list : List (List ℕ)) → IsFullNameList (elements_in names) list → AreNamed list labels count nodes
