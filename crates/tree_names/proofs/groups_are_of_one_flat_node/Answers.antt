use Rattle.tree_names.proofs.GroupNodes.{one_flat_node}
use Rattle.tree_names.proofs.groups_are_of_one_flat_node.Goals as goal

pub returns : goal.returns
returns c = λ raw tree formed rules is. one_flat_node raw formed rules tree is.typed is.clean
