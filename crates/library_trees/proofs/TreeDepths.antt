-- How deep named trees are.
use Rattle.library_trees.proofs.Common.{◌≡◌, ◌<◌, ◌≤◌, ℕ, zero, suc, List, [], ◌∷◌, length, refl, arith, Some, slice_get, Transform, MOST_DEPTH}
use Rattle.library_trees.proofs.Common.{Depth, Size, UseBody, size_at, LibraryParts, IsLawfulLibrary, seen, view_at, children_are_cells, depth_is}
use Rattle.library_trees.proofs.Common.{NamedTree, NamedElements, UseElement, use_elements, named_elements_at, named_elements_from, named_tree_to}
use Rattle.std.proofs.Common.{max}
use Rattle.tree_names.specs.CircuitModel.declared.limits.TheConstants.{LONGEST_CHAIN}
use Rattle.cell_library.specs.CellTree.Sizes.{depth_below as size_below}
use Rattle.tree_names.specs.CleanTrees.{depth_below, depth_of}
use Rattle.library_trees.specs.Laws.{AreChainsShort}
use Rattle.library_trees.specs.NamedCells.{named_tree_at}
use Rattle.library_trees.proofs.WholeTrees.{UsesWithIds}

-- elements of one child are as deep as it
depth_at : (tree : NamedTree) (placed : Transform) (elements : List UseElement) (rest : NamedElements)
    → depth_below (named_elements_at tree placed elements rest) ≤ max (depth_of tree) (depth_below rest)
depth_at tree placed [] rest = omega arith
depth_at tree placed (element ∷ elements) rest = omega (arith, depth_at tree placed elements rest)

-- the elements of uses are no deeper than what is below the uses
depth_from : (s : ℕ → NamedTree) (sizes : ℕ → Size) (uses : UsesWithIds)
    → ((k : ℕ) (entry : List ℕ × UseBody) → slice_get uses k ≡ Some entry → depth_of (s entry.1.child.0) ≤ (sizes entry.1.child.0).depth)
    → depth_below (named_elements_from s uses) ≤ size_below sizes uses
depth_from s sizes [] no_deeper = omega arith
depth_from s sizes (entry ∷ rest) no_deeper =
    let first = no_deeper 0 entry refl in
    let later = depth_from s sizes rest (λ k e is. no_deeper (suc k) e is) in
    let here = depth_at (s entry.1.child.0) entry.1.placed (use_elements entry.0 entry.1.grid) (named_elements_from s rest) in
    omega (arith, first, later, here)

-- a tree is no deeper than its cell
depth_to : (library : LibraryParts) → IsLawfulLibrary library → (depth cell : ℕ) → cell < length library.contents
    → depth_of (named_tree_to (seen library) depth cell) ≤ (size_at library.tree.sizes cell).depth
depth_to library lawful zero cell below = omega (arith, depth_is library lawful cell below)
depth_to library lawful (suc depth) cell below =
    let elements = depth_from (named_tree_to (seen library) depth) (size_at library.tree.sizes) (view_at (seen library) cell).uses
    (λ k entry is. depth_to library lawful depth entry.1.child.0 (children_are_cells library lawful cell below k entry is)) in
    omega (arith, depth_is library lawful cell below, elements)

-- a tree is no deeper than a library allows
depth_within : (library : LibraryParts) → IsLawfulLibrary library → (cell : ℕ) → cell < length library.contents
    → depth_of (named_tree_at (seen library) cell) ≤ MOST_DEPTH
unfolding named_tree_at
depth_within library lawful cell below =
    let within : (size_at library.tree.sizes cell).depth ≤ MOST_DEPTH = lawful.tree.sizes.within Depth cell in
    let deep : depth_of (named_tree_to (seen library) MOST_DEPTH cell) ≤ (size_at library.tree.sizes cell).depth =
    depth_to library lawful MOST_DEPTH cell below in
    omega (arith, within, deep)

-- a library allows no longer chains than records are read along
limit_within : MOST_DEPTH ≤ LONGEST_CHAIN
limit_within = omega arith

-- the trees of the cells of a lawful library
pub short_chains : (library : LibraryParts) → IsLawfulLibrary library → AreChainsShort library
short_chains library lawful = record {
  depth = depth_within library lawful;
  chain = λ cell below. omega (arith, depth_within library lawful cell below, limit_within);
}
