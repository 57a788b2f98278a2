-- Networks of switches.
use Rattle.std.specs.Prelude.{◌≡◌, ℕ, ◌<◌, ◌≤◌, List, Bool, All, length}
use Rattle.switch_net.specs.declared.limits.TheConstants.{LARGEST_SIZE}
use Rattle.switch_net.specs.declared.switches.Switch.{Switch}

-- a network: the number of its nodes, its switches, and for each node its size and whether it is an input
pub record Network : Type 0 where
  pub nodes : ℕ
  pub switches : List Switch
  pub sizes : List ℕ
  pub inputs : List Bool

-- the nodes of a switch are among so many
abbrev pub IsWithin : ℕ → Switch → Type 0
IsWithin nodes switch = (switch.gate < nodes) × (switch.left < nodes) × (switch.right < nodes)

-- a size of a node
abbrev pub IsSize : ℕ → Type 0
IsSize size = (1 ≤ size) × (size ≤ LARGEST_SIZE)

-- the switches' nodes are the network's, and each node has a size and is an input or not
pub record IsSound (net : Network) : Type 0 where
  pub switches_within : All (IsWithin net.nodes) net.switches
  pub one_size : length net.sizes ≡ net.nodes
  pub one_input : length net.inputs ≡ net.nodes
  pub sizes_in_range : All IsSize net.sizes
