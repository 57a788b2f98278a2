-- Terminals between nodes: joined where they are of one node, in the order of nodes.
use Rattle.std.specs.Prelude.{◌≡◌, ◌↔◌, ◌<◌, ◌≤◌, ◌-◌, ◌==◌, ℕ, ℤ, pos, ◌+ℤ◌, if◌then◌else◌, Some, List, [], ◌∷◌, AllPairs, length, map, sum_by}
use Rattle.std.specs.Prelude.{slice_get, slice_index_or}
use Rattle.std.specs.Int.{w128}
use Rattle.std.specs.Int.RustNames.{FitsSigned, unsigned_abs}
use Rattle.std.specs.Str.{bytes_eq}
use Rattle.finite_sets.specs.Lists.{In}
use Rattle.finite_sets.specs.Total.{sum_on}
use Rattle.ext_model.specs.declared.limits.TheConstants.{LENGTHS_EDGE}
use Rattle.ext_model.specs.declared.records.NodeRec.{NodeRec}
use Rattle.ext_model.specs.declared.records.TermRec.{TermRec}
use Rattle.circuit_model.specs.Elements.{Element}
use Rattle.circuit_model.specs.FullNames.{name_in, AreInNameOrder}
use Rattle.circuit_model.specs.FlatFets.{side_name}
use Rattle.name_classes.specs.FullNames.declared.names.FullNames.{FullNames}
use Rattle.name_classes.specs.FullNames.NameLists.{IsFullNameList}
use Rattle.name_classes.specs.FullNames.Names.{elements_in}
use Rattle.flatten.specs.steps.Labels.{label_of}
use Rattle.flatten.specs.steps.Spots.{element_at}
use Rattle.flatten.specs.declared.sides.Side.{Side}

-- a terminal of the element by the number of its node
abbrev pub side_of : List (List ℕ) → List ℕ → Element → TermRec → Side
side_of list labels element side = record { node = label_of list labels (name_in element side.node); length = side.length }

-- the sides are the terminals of the element, in their order
abbrev pub AreSides : FullNames → List ℕ → ℕ → List TermRec → List Side → Type 0
AreSides names labels number terminals sides =
    (list : List (List ℕ)) → IsFullNameList (elements_in names) list → sides ≡ map (side_of list labels (element_at names number)) terminals

-- each side's node is no later than the next one's
abbrev pub AreByNode : List Side → Type 0
AreByNode sides = AllPairs (λ a b. a.node ≤ b.node) sides

-- their lengths add up to less than those of a transistor may
abbrev pub AreShort : List Side → Type 0
AreShort sides = sum_by (λ side. unsigned_abs side.length) sides < LENGTHS_EDGE

-- the length can be added to the last one's
abbrev pub FitsLast : List Side → Side → Type 0
FitsLast joined side = (last : Side) → slice_get joined (length joined - 1) ≡ Some last → FitsSigned w128 (last.length +ℤ side.length)

-- one side more, joined with the last where that is of the same node
abbrev pub with_side : List Side → Side → List Side
with_side [] side = side ∷ []
with_side (last ∷ []) side =
    if last.node == side.node then record { node = last.node; length = last.length +ℤ side.length } ∷ [] else last ∷ side ∷ []
with_side (first ∷ next ∷ rest) side = first ∷ with_side (next ∷ rest) side

-- what a side adds to the length at a node
abbrev pub length_at : ℕ → Side → ℤ
length_at node side = if side.node == node then side.length else pos 0

-- each side's node comes before the next one's
abbrev pub AreAscending : List Side → Type 0
AreAscending [] = Unit {0}
AreAscending (side ∷ []) = Unit {0}
AreAscending (side ∷ next ∷ sides) = (side.node < next.node) × AreAscending (next ∷ sides)

-- The joined sides are one for each node, in the order of nodes.
pub record AreJoined (sides joined : List Side) : Type 0 where
  pub ascending : AreAscending joined
  pub nodes : (node : ℕ) → In node (map (λ side. side.node) joined) ↔ In node (map (λ side. side.node) sides)
  pub lengths : (side : Side) → In side joined → side.length ≡ sum_on (length_at side.node) sides

-- the name of the node of this number
abbrev pub name_of_node : List NodeRec → ℕ → List ℕ
name_of_node nodes number = slice_index_or (map (λ node. node.name) nodes) number []

-- the side by its node's name
abbrev pub named_side : List NodeRec → Side → TermRec
named_side nodes side = record { node = name_of_node nodes side.node; length = side.length }

-- The flat terminals are those of the element's transistor, those of one node joined.
pub record AreFlatTerminals (nodes : List NodeRec) (element : Element) (terminals flats : List TermRec) : Type 0 where
  pub in_order : AreInNameOrder (map (λ side. side.node) flats)
  pub each : (name : List ℕ) → In name (map (λ side. side.node) flats) ↔ In name (map (side_name nodes element) terminals)
  pub lengths : (side : TermRec) → In side flats
      → side.length ≡ sum_on (λ part. if bytes_eq side.node (side_name nodes element part) then part.length else pos 0) terminals
