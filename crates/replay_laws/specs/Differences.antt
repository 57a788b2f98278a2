-- Two runs side by side: where they are alike, and which nodes are the seeds of what differs between them.
use Rattle.std.specs.Prelude.{◌≡◌, ◌≢◌, ℕ, List, true, Contains}
use Rattle.switch_net.specs.declared.switches.Level.{Level}
use Rattle.switch_net.specs.declared.switches.Switch.{Switch}
use Rattle.switch_net.specs.Network.{Network}
use Rattle.switch_net.specs.Path.{Joins, is_input, root_strength, state_of}

-- The two networks have the same nodes and switches. Which nodes are inputs, and their sizes, may differ.
pub record AreWiredAlike (net other : Network) : Type 0 where
  pub nodes : other.nodes ≡ net.nodes
  pub switches : other.switches ≡ net.switches

-- the node has the same state and, as a root, the same strength in both
pub record IsAlike (net other : Network) (s t : List Level) (v : ℕ) : Type 0 where
  pub state : state_of s v ≡ state_of t v
  pub root : root_strength net v ≡ root_strength other v

-- The seeds of the differences are among the nodes with this fact: the nodes that are not alike, the ends of the switches whose gates are in
-- two states, and the far ends of the switches at an input of the other network that is not alike.
pub record HoldsDifferences (net other : Network) (s t : List Level) (IsSeed : ℕ → Type 0) : Type 0 where
  pub own : (v : ℕ) → ¬ (IsAlike net other s t v) → IsSeed v
  pub gated : (w : Switch) (a b : ℕ) → Contains net.switches w → Joins w a b → state_of s w.gate ≢ state_of t w.gate → IsSeed b
  pub beside : (w : Switch) (a b : ℕ) → Contains net.switches w → Joins w a b → is_input other a ≡ true → ¬ (IsAlike net other s t a) → IsSeed b
