-- The named trees of clean cells.
use Rattle.library_trees.proofs.Common.{sym, subst, ℕ, CellTree, LibraryParts, IsLawfulLibrary, seen}
use Rattle.cell_library.specs.LayoutModel.FlatSets.{IsTyped}
use Rattle.tree_names.specs.HierarchyModel.CleanCells.{IsClean}
use Rattle.cell_library.specs.LayoutTrees.{tree_at}
use Rattle.library_trees.specs.Laws.{CleanCellHasCleanTree}
use Rattle.library_trees.proofs.LayoutLaws.{layouts_of_cell}
use Rattle.library_trees.proofs.TreeNameLaws.{element_names}

-- the named tree of a clean cell, whose types are the technology's, is clean
pub clean_tree : (library : LibraryParts) → IsLawfulLibrary library → (cell : ℕ) → IsTyped library.tech (tree_at (seen library) cell)
    → CleanCellHasCleanTree library cell
clean_tree library lawful cell typed clean = record {
  typed = subst (λ (tree : CellTree). IsTyped library.tech tree) (sym (layouts_of_cell (seen library) cell)) typed;
  clean = subst (λ (tree : CellTree). IsClean library.tech tree) (sym (layouts_of_cell (seen library) cell)) clean;
  names = element_names library lawful cell;
}
