use Rattle.layout_model.proofs.NodeLaws.{has_one_node_list}
use Rattle.layout_model.proofs.node_list_is_unique.Goals as goal

pub returns : goal.returns
returns c = has_one_node_list
