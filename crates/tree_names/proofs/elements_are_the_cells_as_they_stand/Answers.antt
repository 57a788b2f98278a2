use Rattle.tree_names.proofs.TreeElements.{elements_for}
use Rattle.tree_names.proofs.elements_are_the_cells_as_they_stand.Goals as goal

pub returns : goal.returns
returns c = λ raw exts tree root. elements_for raw exts tree root
