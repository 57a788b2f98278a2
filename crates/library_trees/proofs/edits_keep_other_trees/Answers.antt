use Rattle.library_trees.proofs.EditedTrees.{edits_keep}
use Rattle.library_trees.proofs.edits_keep_other_trees.Goals as goal

pub returns : goal.returns
returns c = edits_keep
