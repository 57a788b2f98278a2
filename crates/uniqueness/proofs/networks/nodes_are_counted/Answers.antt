use Rattle.uniqueness.proofs.CountedNodes.{more_nodes}
use Rattle.uniqueness.proofs.networks.nodes_are_counted.Goals as goal

pub returns : goal.returns
returns c = λ records net names most is. more_nodes records net names is most
