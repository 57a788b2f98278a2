use Rattle.cell_tree.proofs.Common.{◌∙◌}
use Rattle.cell_tree.proofs.StateLaws.{inserted_size}
use Rattle.cell_tree.proofs.resizes.size_with_placed.Goals as goal

pub returns : goal.returns
returns c at id = c.with_use.ensures ∙ inserted_size c.requires.lawful c.args.cell c.requires.within at id c.args.used.now
