use Rattle.cell_tree.proofs.Common.{◌∙◌, arith, states}
use Rattle.cell_tree.proofs.FindLaws.{length-states}
use Rattle.cell_tree.proofs.GraphLaws.{length-children_of, cell_count-graph}
use Rattle.cell_tree.proofs.graphs.CellGraphUseGraph.use_count.Goals as goal

pub returns : goal.returns
returns c =
    c.len.ensures ∙ cell_count-graph c.args.self.now.cells.now c.args.cell c.index-self-cell.result
    (omega (arith, c.requires, length-children_of (states c.args.self.now.cells.now), length-states c.args.self.now.cells.now))
