use Rattle.cell_tree.proofs.Common.{subst, IsLawfulTree}
use Rattle.cell_tree.proofs.trees.CellTree.lawful.Goals as goal

pub returns : goal.returns
returns c = subst IsLawfulTree c.self.view_is c.self.invariant.lawful
