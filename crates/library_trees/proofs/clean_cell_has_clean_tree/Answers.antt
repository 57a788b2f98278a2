use Rattle.library_trees.proofs.CleanTrees.{clean_tree}
use Rattle.library_trees.proofs.clean_cell_has_clean_tree.Goals as goal

pub returns : goal.returns
returns c = clean_tree c.args.library.now c.lawful.ensures c.args.cell.0 c.typed.ensures
