use Rattle.cell_tree.proofs.Common.{arith}
use Rattle.cell_tree.proofs.TellLaws.{forgotten_more, forgotten_all}
use Rattle.cell_tree.proofs.additions.forget_all.Goals as goal

pub loop-cell-preserved : goal.loop-cell-preserved
loop-cell-preserved c =
    forgotten_more c.args.cells.now c.loop-cell.cells c.forget.new.cells c.args.first c.loop-cell.cell (omega arith) c.requires.users c.loop-cell.invariant
    c.forget.ensures

pub returns-clause-users : goal.returns-clause-users
returns-clause-users c =
    forgotten_all c.args.cells.now c.loop-cell.cells c.args.first c.loop-cell.cell (omega arith) c.requires.users c.loop-cell.invariant
