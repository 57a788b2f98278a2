-- The cells of a library as trees with names and labels.
use Rattle.std.specs.Prelude.{ℕ, zero, suc, List, [], ◌∷◌}
use Rattle.finite_sets.specs.Chain.{Chain}
use Rattle.ext_model.specs.GeoCore.declared.transforms.Transform.{Transform}
use Rattle.cell_library.specs.CellTree.declared.limits.TheConstants.{MOST_DEPTH}
use Rattle.cell_library.specs.CellTree.declared.use_tables.UseBody.{UseBody}
use Rattle.cell_library.specs.CellTree.Uses.{HasChild}
use Rattle.cell_library.specs.LayoutTrees.{element_transform}
use Rattle.cell_library.specs.Views.{CellView, LibraryView, view_at}
use Rattle.tree_names.specs.TreeRecords.NamedTrees.{NamedTree, NamedElements, OwnBody}
use Rattle.tree_names.specs.TreeRecords.NamedTrees.NamedTree.{named_tree}
use Rattle.tree_names.specs.TreeRecords.NamedTrees.NamedElements.{no_more, element_then}
use Rattle.library_trees.specs.ElementNames.{UseElement, use_elements}

-- these elements of one child, and then others
abbrev pub named_elements_at : NamedTree → Transform → List UseElement → NamedElements → NamedElements
named_elements_at tree placed [] rest = rest
named_elements_at tree placed (element ∷ elements) rest =
    element_then element.name (element_transform placed element.step) tree (named_elements_at tree placed elements rest)

-- the elements of uses in order, for the trees of the children
abbrev pub named_elements_from : (ℕ → NamedTree) → List (List ℕ × UseBody) → NamedElements
named_elements_from trees [] = no_more
named_elements_from trees (entry ∷ rest) =
    named_elements_at (trees entry.1.child.0) entry.1.placed (use_elements entry.0 entry.1.grid) (named_elements_from trees rest)

-- what a cell at this position has of its own
abbrev pub body_of : ℕ → CellView → OwnBody
body_of cell seen = record { cell = cell; name = seen.name; layout = seen.own; labels = seen.labels }

-- what a cell of a library has of its own
abbrev pub own_body_of : LibraryView → ℕ → OwnBody
own_body_of view cell = body_of cell (view_at view cell)

-- the cell with what stands below it, as far as so many cells below each other
abbrev pub named_tree_to : LibraryView → ℕ → ℕ → NamedTree
named_tree_to view zero cell = named_tree (own_body_of view cell) no_more
named_tree_to view (suc depth) cell =
    named_tree (own_body_of view cell) (named_elements_from (named_tree_to view depth) (view_at view cell).uses)

-- The cell with all that stands below it. It is unfolded as far as a chain of uses may have cells, which reaches its end.
unfoldable pub named_tree_at : LibraryView → ℕ → NamedTree
named_tree_at view cell = named_tree_to view MOST_DEPTH cell

-- The second cell is the first, or stands below it by a chain of uses.
abbrev pub IsAtOrBelow : LibraryView → ℕ → ℕ → Type 0
IsAtOrBelow view cell below = Chain (λ upper lower. HasChild (view_at view upper).uses lower) cell below
