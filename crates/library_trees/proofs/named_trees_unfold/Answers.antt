use Rattle.library_trees.proofs.WholeTrees.{named_tree_unfolds}
use Rattle.library_trees.proofs.named_trees_unfold.Goals as goal

pub returns : goal.returns
returns c = named_tree_unfolds c.args.library.now c.lawful.ensures
