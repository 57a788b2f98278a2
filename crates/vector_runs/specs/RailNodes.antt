-- The nodes of power and of ground.
use Rattle.std.specs.Prelude.{◌≡◌, ◌↔◌, ◌<◌, ℕ, true, List, Option, Some, None, slice_set}
use Rattle.switch_net.specs.declared.switches.Level.{Level}
use Rattle.switch_net.specs.Network.{Network}
use Rattle.switch_net.specs.SimRecords.{IsGround, IsPower}
use Rattle.vector_runs.specs.declared.rails.Rails.{Rails}
use Rattle.vector_runs.specs.Runs.{with_input}

-- Power and ground have these nodes, if any.
pub record AreRails (names : List (List ℕ × ℕ)) (rails : Rails) : Type 0 where
  pub power : (v : ℕ) → (rails.power ≡ Some v) ↔ IsPower names v
  pub ground : (v : ℕ) → (rails.ground ≡ Some v) ↔ IsGround names v

-- their nodes are among so many
pub record AreBelow (nodes : ℕ) (rails : Rails) : Type 0 where
  pub power : (v : ℕ) → rails.power ≡ Some v → v < nodes
  pub ground : (v : ℕ) → rails.ground ≡ Some v → v < nodes

-- the states in which the node, if there is one, has this state
abbrev pub with_state : List Level → Option ℕ → Level → List Level
with_state states None level = states
with_state states (Some v) level = slice_set states v level

-- the network in which the node, if there is one, is an input
abbrev pub with_rail : Network → Option ℕ → Network
with_rail net None = net
with_rail net (Some v) = with_input net v true
