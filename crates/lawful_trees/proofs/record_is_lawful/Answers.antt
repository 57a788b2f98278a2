use Rattle.lawful_trees.proofs.LawfulTrees.{record_lawful}
use Rattle.lawful_trees.proofs.record_is_lawful.Goals as goal

pub returns : goal.returns
returns c = record_lawful c.args.library.now c.lawful.ensures c.args.cell.0 c.requires c.typed.ensures
