use Rattle.library_trees.proofs.StampedTrees.{stamps_tell}
use Rattle.library_trees.proofs.stamps_tell_changed_trees.Goals as goal

pub returns : goal.returns
returns c = stamps_tell c.args.library.now c.lawful.ensures
