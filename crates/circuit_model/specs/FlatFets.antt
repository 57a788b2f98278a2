-- The transistors of a flat circuit.
use Rattle.std.specs.Prelude.{◌≡◌, ◌↔◌, ℕ, if◌then◌else◌, Some, None, pos, List, [], ◌∷◌, map, find}
use Rattle.std.specs.List.{flat_map}
use Rattle.std.specs.Str.{bytes_eq}
use Rattle.ext_model.specs.FiniteSets.Lists.{In}
use Rattle.ext_model.specs.FiniteSets.Total.{sum_on}
use Rattle.ext_model.specs.declared.records.NodeRec.{NodeRec}
use Rattle.ext_model.specs.declared.records.TermRec.{TermRec}
use Rattle.ext_model.specs.declared.records.FetRec.{FetRec}
use Rattle.circuit_model.specs.Elements.{Element, placed}
use Rattle.circuit_model.specs.FullNames.{name_in, AreInNameOrder}
use Rattle.circuit_model.specs.FlatNodes.{has_name}

-- the preferred name of the flat node that has this full name
abbrev pub node_name : List NodeRec → List ℕ → List ℕ
node_name nodes name = elim (find (λ node. has_name node name) nodes) [ Some node ↦ node.name | None ↦ [] ]

-- the preferred name of the flat node beside a transistor of the element
abbrev pub side_name : List NodeRec → Element → TermRec → List ℕ
side_name nodes element side = node_name nodes (name_in element side.node)

-- The flat transistor is this one of the element's record, between flat nodes. Terminals that are one node are one terminal, whose
-- length is the sum of theirs; they stand in name order.
pub record IsFlatFet (nodes : List NodeRec) (element : Element) (fet flat : FetRec) : Type 0 where
  pub kind : flat.kind ≡ fet.kind
  pub point : record { x = flat.x; y = flat.y } ≡ placed element.uses (record { x = fet.x; y = fet.y })
  pub area : flat.area ≡ fet.area
  pub perimeter : flat.perimeter ≡ fet.perimeter
  pub substrate : flat.substrate ≡ fet.substrate
  pub gate : flat.gate.node ≡ side_name nodes element fet.gate
  pub gate_length : flat.gate.length ≡ fet.gate.length
  pub in_order : AreInNameOrder (map (λ side. side.node) flat.terminals)
  pub terminals : (name : List ℕ)
      → In name (map (λ side. side.node) flat.terminals) ↔ In name (map (side_name nodes element) fet.terminals)
  pub lengths : (side : TermRec) → In side flat.terminals
      → side.length ≡ sum_on (λ part. if bytes_eq side.node (side_name nodes element part) then part.length else pos 0) fet.terminals

-- the transistors of an element's record, each with the element
abbrev pub fets_in : Element → List (Element × FetRec)
fets_in element = map (λ fet. (element, fet)) element.ext.fets

-- the transistors of all elements, in the order of elements and then in that of the record
abbrev pub fets_of : List Element → List (Element × FetRec)
fets_of elements = flat_map fets_in elements

-- the flat transistors are these, one for one
abbrev pub AreFlatFets : List NodeRec → List (Element × FetRec) → List FetRec → Type 0
AreFlatFets nodes [] [] = Unit {0}
AreFlatFets nodes [] (flat ∷ flats) = ⊥
AreFlatFets nodes (fet ∷ fets) [] = ⊥
AreFlatFets nodes (fet ∷ fets) (flat ∷ flats) = IsFlatFet nodes fet.0 fet.1 flat × AreFlatFets nodes fets flats
