use Rattle.library_trees.proofs.RecordedTrees.{listed_are}
use Rattle.library_trees.proofs.listed_records_are_of_the_tree.Goals as goal

pub returns : goal.returns
returns c = listed_are c.args.library.now c.lawful.ensures
