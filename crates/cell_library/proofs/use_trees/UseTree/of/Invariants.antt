use Rattle.cell_library.proofs.UseTreeLaws.{AreFirstUses}
use Rattle.cell_library.proofs.use_trees.UseTree.of.Given as goal

abbrev pub invariant-loop-k : goal.invariant-loop-k
invariant-loop-k l = AreFirstUses l.tree l.cell.0 l.k l.boxes.items l.starts.items l.start
