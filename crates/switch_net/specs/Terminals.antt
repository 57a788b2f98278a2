-- The nodes at the terminals of a switch.
use Rattle.std.specs.Prelude.{ℕ}
use Rattle.switch_net.specs.declared.switches.Switch.{Switch}
use Rattle.switch_net.specs.declared.terminals.Side.{Side}
use Rattle.switch_net.specs.declared.terminals.Side.TheVariants.{Left, Right}
use Rattle.switch_net.specs.declared.terminals.Terminal.{Terminal}
use Rattle.switch_net.specs.declared.terminals.Terminal.TheVariants.{Gate, End}

-- the node at the end of a switch on this side
abbrev pub near_end : Side → Switch → ℕ
near_end Left switch = switch.left
near_end Right switch = switch.right

-- the node at its other end
abbrev pub far_end : Side → Switch → ℕ
far_end Left switch = switch.right
far_end Right switch = switch.left

-- the node at a terminal
abbrev pub node_at : Terminal → Switch → ℕ
node_at Gate switch = switch.gate
node_at (End side) switch = near_end side switch
