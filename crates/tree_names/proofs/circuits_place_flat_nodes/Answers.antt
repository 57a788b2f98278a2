use Rattle.tree_names.proofs.Common.{elements_of}
use Rattle.tree_names.proofs.NodePoints.{point_of}
use Rattle.tree_names.proofs.TreeElements.{elements_for}
use Rattle.tree_names.proofs.circuits_place_flat_nodes.Goals as goal

pub returns : goal.returns
returns c = λ raw exts tree root classes nodes formed typed has found deep are node listed.
    point_of raw formed exts tree typed (elements_of exts root) (elements_for raw exts tree root has found deep) classes node (are.sound node listed)
