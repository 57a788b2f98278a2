use Rattle.library_trees.proofs.RecordedTrees.{kept_are}
use Rattle.library_trees.proofs.kept_records_are_of_the_tree.Goals as goal

pub returns : goal.returns
returns c = kept_are c.args.library.now c.lawful.ensures
