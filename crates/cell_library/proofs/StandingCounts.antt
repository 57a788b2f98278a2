-- How many cells stand at and below a cell.
use Rattle.cell_library.proofs.Common.{◌≡◌, ◌<◌, ◌≤◌, ℕ, List, length, ap, ◌∙◌, arith, identity, CellTree, Standing, standings, MOST_DEPTH}
use Rattle.cell_library.proofs.Common.{MOST_ELEMENTS_BELOW, Depth, Elements, size_at, tree_to, LibraryParts, IsLawfulLibrary, seen}
use Rattle.cell_library.specs.LayoutTrees.{tree_at}
use Rattle.cell_library.proofs.PlacedCells.{cells_counted, cells_in, length-placed, standings_placed}
use Rattle.cell_library.proofs.SizeLaws.{tree_children}

-- each cell of a tree stands once
length-standings : (tree : CellTree) → length (standings tree) ≡ cells_in tree
length-standings tree = ap (λ (cells : List Standing). length cells) (standings_placed tree) ∙ length-placed 1 0 identity tree

-- as many cells stand at and below a cell of the library as its size tells
pub standings_counted : (library : LibraryParts) → IsLawfulLibrary library → (cell : ℕ) → cell < length library.contents
    → length (standings (tree_at (seen library) cell)) ≡ (size_at library.tree.sizes cell).elements
unfolding tree_at
standings_counted library lawful cell below =
    let many = lawful.so_many in
    let deep : (size_at library.tree.sizes cell).depth ≤ MOST_DEPTH = lawful.tree.sizes.within Depth cell in
    length-standings (tree_to (seen library) MOST_DEPTH cell)
    ∙ cells_counted (seen library) library.tree.cells library.tree.sizes lawful.boxes lawful.tree.sizes.right
    (tree_children library.tree lawful.tree) MOST_DEPTH cell (omega (arith, many, below)) (omega (arith, deep))

-- there are no more of them than the limit
pub standings_few : (library : LibraryParts) → IsLawfulLibrary library → (cell : ℕ) → cell < length library.contents
    → length (standings (tree_at (seen library) cell)) ≤ MOST_ELEMENTS_BELOW
standings_few library lawful cell below =
    let few : (size_at library.tree.sizes cell).elements ≤ MOST_ELEMENTS_BELOW = lawful.tree.sizes.within Elements cell in
    let same = standings_counted library lawful cell below in
    omega (arith, few, same)
