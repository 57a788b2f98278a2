use Rattle.stack_nodes.proofs.NodeSums.{stack_sums_fit}
use Rattle.stack_nodes.proofs.stack_sums_fit.Goals as goal

pub returns : goal.returns
returns c = stack_sums_fit
