use Rattle.tree_circuits.specs.SumLaws.{HasSumOfPlaces}
use Rattle.tree_circuits.proofs.ClosedSums.{of_each}
use Rattle.tree_circuits.proofs.FlatMeasures.{sum_of_places}
use Rattle.tree_circuits.proofs.flat_nodes_have_the_sums_of_their_places.Goals as goal

pub returns : goal.returns
returns c = λ raw exts tree root classes node well rules is has found deep flat place path here named.
    of_each raw (HasSumOfPlaces raw exts tree root node place)
    (sum_of_places raw exts tree root node well rules is has found deep classes flat place path here named)
