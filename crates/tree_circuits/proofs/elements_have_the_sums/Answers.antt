use Rattle.tree_circuits.proofs.ElementSums.{elements_have}
use Rattle.tree_circuits.proofs.elements_have_the_sums.Goals as goal

pub returns : goal.returns
returns c = λ raw exts tree root quantity node has found deep. elements_have raw exts tree root quantity node has found deep
