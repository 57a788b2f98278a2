-- The transistors of a layout with labels, as records have them.
use Rattle.std.specs.Prelude.{◌≡◌, ◌⊎◌, ◌<◌, ℕ, List, length, map, slice_index_or, All, AllPairs}
use Rattle.std.specs.declared.cmp.Ordering.TheVariants.{Less}
use Rattle.cell_nodes.specs.FiniteSets.Least.{IsLeast}
use Rattle.cell_nodes.specs.FiniteSets.Lists.{In}
use Rattle.cell_nodes.specs.TechModel.declared.raw.FetRule.{FetRule}
use Rattle.cell_nodes.specs.TechModel.declared.raw.Label.{Label}
use Rattle.cell_nodes.specs.TechModel.declared.raw.RawTech.{RawTech}
use Rattle.cell_nodes.specs.ExtModel.declared.records.FetRec.{FetRec}
use Rattle.cell_nodes.specs.ExtModel.NameOrder.{name_cmp}
use Rattle.cell_nodes.specs.LayoutModel.Places.{Place, IsBefore, IsNoLater}
use Rattle.cell_nodes.specs.LayoutModel.Layouts.{Layout, IsMaterial}
use Rattle.cell_nodes.specs.LayoutModel.Transistors.{AreTransistors, Transistor, gate_length}
use Rattle.cell_nodes.specs.Names.NamedNodes.{AreOneNamedNode, IsNameOf}

-- one name stands before the other in the name order
abbrev pub IsNameBefore : List ℕ → List ℕ → Type 0
IsNameBefore a b = name_cmp a b ≡ Less

-- the same name, or one before
abbrev pub IsNoLaterName : List ℕ → List ℕ → Type 0
IsNoLaterName a b = (a ≡ b) ⊎ IsNameBefore a b

-- The place has material, and its node goes by this name, the first of the node's names in name order.
pub record IsOfNode (raw : RawTech) (layout : Layout) (labels : List Label) (name : List ℕ) (place : Place) : Type 0 where
  pub material : IsMaterial layout place
  pub least : Place
  pub is_least : IsLeast IsNoLater (AreOneNamedNode raw layout labels place) least
  pub first : IsLeast IsNoLaterName (IsNameOf raw layout labels least) name

-- The first of two nodes, which go by these names, has the earlier least place.
pub record IsNodeBefore (raw : RawTech) (layout : Layout) (labels : List Label) (name next : List ℕ) : Type 0 where
  pub least : Place
  pub next_least : Place
  pub is_least : IsLeast IsNoLater (IsOfNode raw layout labels name) least
  pub is_next_least : IsLeast IsNoLater (IsOfNode raw layout labels next) next_least
  pub before : IsBefore least next_least

-- The record has what the technology says of transistors with that channel, the transistor's least square as its point, its area and
-- perimeter, its gate with what is written for it, and its terminals.
pub record IsFetRecord (raw : RawTech) (fet : Transistor (List ℕ)) (made : FetRec) : Type 0 where
  pub rule : FetRule
  pub listed : In rule raw.fets
  pub channel : rule.kind.0 ≡ fet.kind
  pub kind : made.kind ≡ rule.name
  pub substrate : made.substrate ≡ rule.substrate
  pub x : made.x ≡ fet.least.square.x
  pub y : made.y ≡ fet.least.square.y
  pub area : made.area ≡ fet.area
  pub perimeter : made.perimeter ≡ fet.perimeter
  pub gate : made.gate ≡ record { node = fet.gate; length = gate_length fet }
  pub terminals : made.terminals ≡ map (λ terminal. record { node = terminal.0; length = terminal.1 }) fet.terminals

-- the nodes of the terminals
abbrev pub terminal_names : FetRec → List (List ℕ)
terminal_names fet = map (λ terminal. terminal.node) fet.terminals

-- These are the records of the transistors of the layout, by their least places. Nodes go by their names, and the terminals of each
-- transistor stand in this order of them.
pub record AreFetRecords (raw : RawTech) (layout : Layout) (labels : List Label) (Before : List ℕ → List ℕ → Type 0) (fets : List FetRec)
    : Type 0 where
  pub found : List (Transistor (List ℕ))
  pub transistors : AreTransistors raw layout (IsOfNode raw layout labels) found
  pub one_each : length fets ≡ length found
  pub each : (k : ℕ) (fet : Transistor (List ℕ)) (made : FetRec) → k < length found
      → IsFetRecord raw (slice_index_or found k fet) (slice_index_or fets k made)
  pub in_order : All (λ fet. AllPairs Before (terminal_names fet)) fets
