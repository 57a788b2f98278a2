-- What a wiring holds.
use Rattle.std.specs.Prelude.{◌≡◌, ℕ, ◌<◌, List, Contains, length, slice_index, slice_index_or}
use Rattle.switch_net.specs.declared.adjacency.SortedSwitches.{SortedSwitches}
use Rattle.switch_net.specs.declared.switches.Switch.{Switch}
use Rattle.switch_net.specs.declared.terminals.Side.TheVariants.{Left, Right}
use Rattle.switch_net.specs.declared.terminals.Terminal.{Terminal}
use Rattle.switch_net.specs.declared.terminals.Terminal.TheVariants.{Gate, End}
use Rattle.switch_net.specs.Network.{Network}
use Rattle.switch_net.specs.Sets.{IsAmong}
use Rattle.switch_net.specs.Terminals.{node_at}
use Rattle.steady_state.specs.declared.wiring.Wiring.{Wiring}

-- the network
abbrev pub network_in : Wiring → Network
network_in net = record { nodes = net.nodes; switches = net.switches.now; sizes = net.sizes.now; inputs = net.inputs.now }

-- the switches sorted at a terminal
abbrev pub sorted_at : Terminal → Wiring → SortedSwitches
sorted_at Gate net = net.adjacency.now.gate
sorted_at (End Left) net = net.adjacency.now.left
sorted_at (End Right) net = net.adjacency.now.right

-- the places of the switches that have the node at the terminal
pub record AreSwitchesAt (switches : List Switch) (terminal : Terminal) (v : ℕ) (places : List ℕ) : Type 0 where
  pub stand : (i : ℕ) → i < length places → slice_index places i < length switches
  pub own : (i : ℕ) (d : Switch) → i < length places → node_at terminal (slice_index_or switches (slice_index places i) d) ≡ v
  pub all : (k : ℕ) (d : Switch) → k < length switches → node_at terminal (slice_index_or switches k d) ≡ v → IsAmong places (length places) k

-- a switch of the network, with its nodes
pub record IsSwitchOf (net : Network) (switch : Switch) : Type 0 where
  pub stands : Contains net.switches switch
  pub gate : switch.gate < net.nodes
  pub left : switch.left < net.nodes
  pub right : switch.right < net.nodes
