use Rattle.library_trees.proofs.LayoutLaws.{layouts_of_cell}
use Rattle.library_trees.proofs.named_trees_have_the_layouts.Goals as goal

pub returns : goal.returns
returns c = layouts_of_cell
