use Rattle.stack_nodes.proofs.NetworkNodes.{stack_networks_have_their_nodes}
use Rattle.stack_nodes.proofs.stack_networks_have_their_nodes.Goals as goal

pub returns : goal.returns
returns c = stack_networks_have_their_nodes
