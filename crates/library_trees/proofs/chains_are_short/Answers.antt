use Rattle.library_trees.proofs.TreeDepths.{short_chains}
use Rattle.library_trees.proofs.chains_are_short.Goals as goal

pub returns : goal.returns
returns c = short_chains c.args.library.now c.lawful.ensures
