use Rattle.tree_names.proofs.FlatNames.{flat_names_are}
use Rattle.tree_names.proofs.NodeNames.{flat_node_names, names_one_flat_node}
use Rattle.tree_names.proofs.TreeElements.{elements_for}
use Rattle.tree_names.proofs.Common.{elements_of}
use Rattle.tree_names.proofs.records_tell_flat_nodes.Goals as goal

pub returns : goal.returns
returns c = λ raw exts tree root formed rules is has found deep.
    let elements = elements_of exts root in
    let are = elements_for raw exts tree root has found deep in
    record {
      nodes = λ a b path other here there. (
        flat_node_names raw formed rules tree is exts has elements are a b path other here there,
        names_one_flat_node raw formed rules tree is exts has elements are a b path other here there,
      );
      names = flat_names_are raw formed rules tree is exts has elements are;
    }
