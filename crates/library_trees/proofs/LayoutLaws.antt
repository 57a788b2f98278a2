-- Named trees without their names and labels.
use Rattle.library_trees.proofs.Common.{◌≡◌, ℕ, zero, suc, ℤ, List, [], ◌∷◌, map, refl, ap, ◌∙◌, Option, Some, None, Grid, Transform, CellTree}
use Rattle.library_trees.proofs.Common.{MOST_DEPTH, UseBody, LibraryView, view_at, NamedTree, NamedElements, UseElement, array_element, use_elements}
use Rattle.library_trees.proofs.Common.{named_elements_at, named_elements_from, named_tree_to}
use Rattle.std.proofs.lemmas.Simd.{map-map}
use Rattle.ext_model.specs.GeoCore.Elements.{elements_of}
use Rattle.cell_library.specs.LayoutModel.CellTrees.CellTree.{cell_tree}
use Rattle.cell_library.specs.LayoutModel.CellTrees.Elements.{element_and}
use Rattle.cell_library.specs.CellTree.Uses.{displacements}
use Rattle.cell_library.specs.LayoutTrees.{element_transform, elements_at, elements_from, own_cell, tree_at, tree_to}
use Rattle.tree_names.specs.TreeRecords.NamedTrees.{layouts_below, layouts_of}
use Rattle.library_trees.specs.NamedCells.{named_tree_at}

-- how far the elements are displaced
abbrev steps_in : List UseElement → List (ℤ × ℤ)
steps_in elements = map (λ (element : UseElement). element.step) elements

-- the elements of a use are displaced as its grid says
steps_of : (id : List ℕ) (grid : Option Grid) → steps_in (use_elements id grid) ≡ displacements grid
steps_of id None = refl
steps_of id (Some grid) = map-map (λ (element : UseElement). element.step) (array_element id) (elements_of grid)

-- the layouts of elements of one child, and of those behind them
layouts_at : (tree : NamedTree) (placed : Transform) (elements : List UseElement) (rest : NamedElements)
    → layouts_below (named_elements_at tree placed elements rest)
    ≡ elements_at (layouts_of tree) placed (steps_in elements) (layouts_below rest)
layouts_at tree placed [] rest = refl
layouts_at tree placed (element ∷ elements) rest =
    ap (element_and (element_transform placed element.step) (layouts_of tree)) (layouts_at tree placed elements rest)

-- the layouts of the elements of uses, where those of the children's trees are these
layouts_from : (s : ℕ → NamedTree) (t : ℕ → CellTree) → ((cell : ℕ) → layouts_of (s cell) ≡ t cell) → (uses : List (List ℕ × UseBody))
    → layouts_below (named_elements_from s uses) ≡ elements_from t uses
layouts_from s t are [] = refl
layouts_from s t are (entry ∷ rest) =
    layouts_at (s entry.1.child.0) entry.1.placed (use_elements entry.0 entry.1.grid) (named_elements_from s rest)
    ∙ (λ i. elements_at (are entry.1.child.0 i) entry.1.placed (steps_of entry.0 entry.1.grid i) (layouts_from s t are rest i))

-- the layouts of the cell with what stands below it, as far as so many cells below each other
layouts_to : (view : LibraryView) (depth cell : ℕ) → layouts_of (named_tree_to view depth cell) ≡ tree_to view depth cell
layouts_to view zero cell = refl
layouts_to view (suc depth) cell =
    ap (cell_tree (own_cell view cell))
    (layouts_from (named_tree_to view depth) (tree_to view depth) (layouts_to view depth) (view_at view cell).uses)

-- without names and labels the named tree of a cell is its tree of layouts
pub layouts_of_cell : (view : LibraryView) (cell : ℕ) → layouts_of (named_tree_at view cell) ≡ tree_at view cell
unfolding named_tree_at tree_at
layouts_of_cell view cell = layouts_to view MOST_DEPTH cell
