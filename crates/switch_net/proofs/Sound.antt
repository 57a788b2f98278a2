-- A network of the program is sound.
use Rattle.switch_net.specs.declared.network.Net.{Net}
use Rattle.switch_net.proofs.Common.{IsSound}
use Rattle.switch_net.specs.Net.{network_of}

pub sound_of : (net : Net) → IsSound (network_of net)
sound_of net = record { switches_within = net.switches_within; one_size = net.one_size; one_input = net.one_input; sizes_in_range = net.sizes_in_range }
