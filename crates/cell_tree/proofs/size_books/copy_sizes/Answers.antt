use Rattle.cell_tree.proofs.Common.{◌∙◌, arith}
use Rattle.cell_tree.proofs.MarkLaws.{copy_end}
use Rattle.cell_tree.proofs.size_books.copy_sizes.Goals as goal

pub returns : goal.returns
returns c =
    copy_end c.args.order.now c.loop-key.to c.args.from.now c.loop-key.key-index (omega arith) (c.loop-key.auto.to ∙ c.requires.long) c.loop-key.invariant
