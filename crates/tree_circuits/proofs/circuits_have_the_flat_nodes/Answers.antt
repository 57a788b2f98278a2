use Rattle.tree_circuits.proofs.FlatNodes.{flat_nodes_are}
use Rattle.tree_circuits.proofs.circuits_have_the_flat_nodes.Goals as goal

pub returns : goal.returns
returns c = λ raw exts tree root nodes well rules is has found deep are. flat_nodes_are raw exts tree root nodes well rules is has found deep are
