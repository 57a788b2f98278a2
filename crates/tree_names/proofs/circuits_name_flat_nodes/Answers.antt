use Rattle.tree_names.proofs.Common.{elements_of}
use Rattle.tree_names.proofs.CircuitNodes.{name_flat_nodes}
use Rattle.tree_names.proofs.TreeElements.{elements_for}
use Rattle.tree_names.proofs.circuits_name_flat_nodes.Goals as goal

pub returns : goal.returns
returns c = λ raw exts tree root classes nodes formed rules is has found deep.
    name_flat_nodes raw formed rules tree is exts has (elements_of exts root) (elements_for raw exts tree root has found deep) classes nodes
