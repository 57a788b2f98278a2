-- The terminals of transistors, where the nodes of an own layout have become nodes of a flat layout.
use Rattle.std.specs.Prelude.{◌≡◌, ◌↔◌, ℕ, ℤ, pos, if◌then◌else◌, List, map}
use Rattle.std.specs.Str.{bytes_eq}
use Rattle.finite_sets.specs.Lists.{In, Distinct}
use Rattle.finite_sets.specs.Total.{sum_on}
use Rattle.tree_names.specs.TechModel.declared.raw.RawTech.{RawTech}
use Rattle.tree_names.specs.LayoutModel.Places.{Place}
use Rattle.tree_names.specs.LayoutModel.Transistors.{AreOneChannel, IsTransistor, Transistor, gate_length}
use Rattle.tree_names.specs.TreeRecords.FetRecords.{IsOfNode}
use Rattle.tree_names.specs.TreeRecords.FlatLayouts.{IsOfFlatNode, flat_layout}
use Rattle.tree_names.specs.TreeRecords.NamedTrees.{NamedTree, NamedStanding, place_forth}

-- The function takes the name of each node of the cell's own layout, as it stands, to that of the flat node in which the node's places lie.
abbrev pub GivesFlatNames : RawTech → NamedTree → NamedStanding → (List ℕ → List ℕ) → Type 0
GivesFlatNames raw tree standing rename =
    (name : List ℕ) (place : Place) → IsOfNode raw standing.own.layout standing.own.labels name place
    → IsOfFlatNode raw tree (rename name) (place_forth standing.placed place)

-- The second are the first with other names of nodes, where those that get one name are one terminal, as long as they are together.
pub record AreRenamed (rename : List ℕ → List ℕ) (terminals renamed : List (List ℕ × ℤ)) : Type 0 where
  pub names : (name : List ℕ) → In name (map (λ terminal. terminal.0) renamed) ↔ In name (map (λ terminal. rename terminal.0) terminals)
  pub lengths : (terminal : List ℕ × ℤ) → In terminal renamed
      → terminal.1 ≡ sum_on (λ part. if bytes_eq terminal.0 (rename part.0) then part.1 else pos 0) terminals
  pub once : Distinct (map (λ terminal. terminal.0) renamed)

-- The transistor of the own layout is one of the flat layout, where the cell stands: between the nodes of those names, with these
-- terminals.
pub record HasTransistorAbove (raw : RawTech) (tree : NamedTree) (standing : NamedStanding) (rename : List ℕ → List ℕ)
    (own : Transistor (List ℕ))
    (terminals : List (List ℕ × ℤ)) : Type 0 where
  pub above : Transistor (List ℕ)
  pub is : IsTransistor raw (flat_layout raw tree) (IsOfFlatNode raw tree) above
  pub places : (place : Place) → AreOneChannel standing.own.layout own.least place
      ↔ AreOneChannel (flat_layout raw tree) above.least (place_forth standing.placed place)
  pub kind : above.kind ≡ own.kind
  pub area : above.area ≡ own.area
  pub perimeter : above.perimeter ≡ own.perimeter
  pub gate : above.gate ≡ rename own.gate
  pub gate_length : gate_length above ≡ gate_length own
  pub terminals_are : above.terminals ≡ terminals
