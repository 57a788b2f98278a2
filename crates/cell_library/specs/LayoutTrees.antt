-- The cells of a library as trees of layouts.
use Rattle.std.specs.Prelude.{ℕ, zero, suc, ℤ, List, [], ◌∷◌}
use Rattle.geo_core.specs.declared.orients.Orient.TheVariants.{R0}
use Rattle.geo_core.specs.declared.transforms.Transform.{Transform}
use Rattle.geo_core.specs.Images.{composed}
use Rattle.cell_tree.specs.declared.limits.TheConstants.{MOST_DEPTH}
use Rattle.cell_tree.specs.declared.use_tables.UseBody.{UseBody}
use Rattle.cell_tree.specs.Uses.{displacements}
use Rattle.cell_bodies.specs.LayoutModel.CellTrees.{OwnCell, CellTree, Elements}
use Rattle.cell_bodies.specs.LayoutModel.CellTrees.CellTree.{cell_tree}
use Rattle.cell_bodies.specs.LayoutModel.CellTrees.Elements.{no_elements, element_and}
use Rattle.cell_library.specs.Views.{LibraryView, view_at}

-- the transform of an element that is displaced so far within a use: first displaced, and then placed as the use is
abbrev pub element_transform : Transform → ℤ × ℤ → Transform
element_transform placed step = composed (record { orient = R0; dx = step.0; dy = step.1 }) placed

-- elements of one child, displaced so far each, and then others
abbrev pub elements_at : CellTree → Transform → List (ℤ × ℤ) → Elements → Elements
elements_at tree placed [] rest = rest
elements_at tree placed (step ∷ steps) rest = element_and (element_transform placed step) tree (elements_at tree placed steps rest)

-- the elements of uses in order, for the trees of the children
abbrev pub elements_from : (ℕ → CellTree) → List (List ℕ × UseBody) → Elements
elements_from trees [] = no_elements
elements_from trees (entry ∷ rest) = elements_at (trees entry.1.child.0) entry.1.placed (displacements entry.1.grid) (elements_from trees rest)

-- what a cell has of its own
abbrev pub own_cell : LibraryView → ℕ → OwnCell
own_cell view cell = record { cell = cell; layout = (view_at view cell).own }

-- the cell with what stands below it, as far as so many cells below each other
abbrev pub tree_to : LibraryView → ℕ → ℕ → CellTree
tree_to view zero cell = cell_tree (own_cell view cell) no_elements
tree_to view (suc depth) cell = cell_tree (own_cell view cell) (elements_from (tree_to view depth) (view_at view cell).uses)

-- The cell with all that stands below it. It is unfolded as far as a chain of uses may have cells, which reaches its end.
unfoldable pub tree_at : LibraryView → ℕ → CellTree
tree_at view cell = tree_to view MOST_DEPTH cell
