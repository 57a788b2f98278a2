use Rattle.tree_circuits.proofs.FlatMeasures.{are_of_groups}
use Rattle.tree_circuits.proofs.names_are_those_of_groups.Goals as goal

pub returns : goal.returns
returns c = λ raw exts tree root classes node well rules is has found deep flat.
    are_of_groups raw exts tree root node well rules is has found deep classes flat
