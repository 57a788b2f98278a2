-- The network that a value of the program stands for.
use Rattle.switch_net.specs.declared.network.Net.{Net}
use Rattle.switch_net.specs.Network.{Network}

-- all of it but the arrays in which it works
abbrev pub network_of : Net → Network
network_of net = record { nodes = net.nodes; switches = net.switches; sizes = net.sizes; inputs = net.inputs }
