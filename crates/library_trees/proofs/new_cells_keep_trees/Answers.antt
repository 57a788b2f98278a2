use Rattle.library_trees.proofs.EditedTrees.{new_cells_keep}
use Rattle.library_trees.proofs.new_cells_keep_trees.Goals as goal

pub returns : goal.returns
returns c = new_cells_keep c.args.library.now c.lawful.ensures
