use Rattle.stack_nodes.proofs.CircuitNodes.{stack_circuits_have_their_nodes}
use Rattle.stack_nodes.proofs.stack_circuits_have_their_nodes.Goals as goal

pub returns : goal.returns
returns c = stack_circuits_have_their_nodes
