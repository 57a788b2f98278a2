use Rattle.tree_circuits.proofs.FlatMeasures.{measured}
use Rattle.tree_circuits.proofs.flat_nodes_are_measured.Goals as goal

pub returns : goal.returns
returns c = λ raw exts tree root node well rules is has found deep flat place path here named.
    measured raw exts tree root node well rules is has found deep flat place path here named
