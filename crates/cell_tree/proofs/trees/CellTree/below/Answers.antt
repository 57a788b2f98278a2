use Rattle.cell_tree.proofs.Common.{sym, subst, List, AreCells, IsAcyclicBelow, TreeCell, states, children_of}
use Rattle.cell_tree.proofs.GraphLaws.{lawful_children, lawful_acyclic}
use Rattle.cell_tree.proofs.trees.CellTree.below.Goals as goal

pub below-requires-clause-cells : goal.below-requires-clause-cells
below-requires-clause-cells c =
    subst (λ (cells : List TreeCell). AreCells (children_of (states cells))) (sym c.as_slice-cells.ensures.value)
    (lawful_children (states c.self.inside.cells.items) c.self.invariant.lawful.cells)

pub below-requires-clause-acyclic : goal.below-requires-clause-acyclic
below-requires-clause-acyclic c =
    subst (λ (cells : List TreeCell). IsAcyclicBelow (children_of (states cells)) c.args.root) (sym c.as_slice-cells.ensures.value)
    (lawful_acyclic (states c.self.inside.cells.items) c.self.inside.book.sizes.items c.args.root c.self.invariant.lawful.cells c.self.invariant.lawful.sizes)
