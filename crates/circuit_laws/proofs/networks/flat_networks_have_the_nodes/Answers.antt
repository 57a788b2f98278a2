use Rattle.circuit_laws.proofs.FlatNumbers.{flat_networks_have_the_nodes}
use Rattle.circuit_laws.proofs.networks.flat_networks_have_the_nodes.Goals as goal

pub returns : goal.returns
returns c = flat_networks_have_the_nodes
