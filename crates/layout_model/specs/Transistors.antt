-- The transistors of a layout.
use Rattle.std.specs.Prelude.{◌≡◌, ℕ, ℤ, pos, ◌-ℤ◌, ◌<ℤ◌, IsTrue, List, map}
use Rattle.geo_core.specs.FiniteSets.Chain.{Chain}
use Rattle.geo_core.specs.FiniteSets.Lists.{In, Distinct}
use Rattle.geo_core.specs.FiniteSets.Least.{IsLeast}
use Rattle.geo_core.specs.FiniteSets.Total.{sum_on, Total}
use Rattle.geo_core.specs.FiniteSets.Order.{IsInOrder}
use Rattle.layout_model.specs.Places.{Place, AreNeighbours, IsBefore, IsNoLater}
use Rattle.layout_model.specs.Layouts.{Layout}
use Rattle.tech_model.specs.declared.raw.RawTech.{RawTech}
use Rattle.tech_model.specs.ChannelRoles.{is_channel, is_terminal}
use Rattle.layout_model.specs.EdgeCounts.{IsEdgeCount}

-- Two neighbours on one plane, of one type.
pub record AreAlike (layout : Layout) (a b : Place) : Type 0 where
  pub near : AreNeighbours a b
  pub same : layout a ≡ layout b

-- places of one edge-connected set of one type
abbrev pub AreOneChannel : Layout → Place → Place → Type 0
AreOneChannel layout = Chain (AreAlike layout)

-- A transistor, whose nodes are named by N: its channel's type and least place, how many squares it has and how many edges
-- lead out of it, the node of the channel, and each node beside it that is a terminal, with the length of the edges to it.
pub record Transistor (N : Type 0) : Type 0 where
  pub kind : ℕ
  pub least : Place
  pub area : ℤ
  pub perimeter : ℤ
  pub gate : N
  pub terminals : List (N × ℤ)

-- what is written for the gate: the edges that lead to no terminal
abbrev pub gate_length : {N : Type 0} → Transistor N → ℤ
gate_length fet = fet.perimeter -ℤ sum_on (λ terminal. terminal.1) fet.terminals

-- The place is of a terminal's type, and of this node.
pub record IsTerminalOf {N : Type 0} (raw : RawTech) (layout : Layout) (Owns : N → Place → Type 0) (channel : ℕ) (node : N) (place : Place) : Type 0 where
  pub listed : IsTrue (is_terminal raw channel (layout place))
  pub owned : Owns node place

-- This is the transistor of its least place. `Owns` says which places each node has.
pub record IsTransistor {N : Type 0} (raw : RawTech) (layout : Layout) (Owns : N → Place → Type 0) (fet : Transistor N) : Type 0 where
  pub listed : IsTrue (is_channel raw fet.kind)
  pub kind : layout fet.least ≡ fet.kind
  pub least : IsLeast IsNoLater (AreOneChannel layout fet.least) fet.least
  pub area : Total (AreOneChannel layout fet.least) (λ place. pos 1) fet.area
  pub perimeter : IsEdgeCount (AreOneChannel layout fet.least) (λ place. AreOneChannel layout fet.least place → ⊥) fet.perimeter
  pub gate : Owns fet.gate fet.least
  pub terminals : (node : N) (length : ℤ) → In {X = N × ℤ} (node, length) fet.terminals
      → (pos 0 <ℤ length) × IsEdgeCount (AreOneChannel layout fet.least) (IsTerminalOf raw layout Owns fet.kind node) length
  -- each neighbour of a terminal's type belongs to one of them
  pub whole : (a b : Place) → AreOneChannel layout fet.least a → AreNeighbours a b → IsTrue (is_terminal raw fet.kind (layout b))
      → (node : N) × In node (map (λ terminal. terminal.0) fet.terminals) × Owns node b
  pub once : Distinct (map (λ terminal. terminal.0) fet.terminals)

-- Each transistor stands before the next by its least place.
abbrev pub AreFetsInOrder : {N : Type 0} → List (Transistor N) → Type 0
AreFetsInOrder fets = IsInOrder (λ fet next. IsBefore fet.least next.least) fets

-- These are the transistors of the layout, by their least places: each place of a channel's type is in one of them.
pub record AreTransistors {N : Type 0} (raw : RawTech) (layout : Layout) (Owns : N → Place → Type 0) (fets : List (Transistor N)) : Type 0 where
  pub sound : (fet : Transistor N) → In fet fets → IsTransistor raw layout Owns fet
  pub whole : (place : Place) → IsTrue (is_channel raw (layout place)) → (fet : Transistor N) × In fet fets × AreOneChannel layout fet.least place
  pub in_order : AreFetsInOrder fets
