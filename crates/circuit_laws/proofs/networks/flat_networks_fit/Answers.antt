use Rattle.circuit_laws.proofs.FittingNetworks.{flat_networks_fit}
use Rattle.circuit_laws.proofs.networks.flat_networks_fit.Goals as goal

pub returns : goal.returns
returns c = flat_networks_fit
