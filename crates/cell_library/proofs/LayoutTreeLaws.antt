-- The trees of the cells of a lawful library: enough depth makes them whole.
use Rattle.cell_library.proofs.Common.{◌≡◌, ◌<◌, ◌≤◌, ℕ, zero, suc, List, [], ◌∷◌, length, refl, sym, ap, ◌∙◌, arith, Some, slice_get}
use Rattle.cell_library.proofs.Common.{slice_get-get_or, CellTree, cell_tree, MOST_DEPTH, Depth, Size, UseBody, displacements, size_at, cell_at}
use Rattle.cell_library.proofs.Common.{empty_cell, elements_at, elements_from, tree_to, LibraryParts, IsLawfulLibrary, seen, uses_in, view_at}
use Rattle.cell_tree.specs.Sizes.{size_of, depth_below}
use Rattle.cell_library.specs.LayoutTrees.{own_cell, tree_at}
use Rattle.cell_library.proofs.ViewLaws.{cell_viewed, uses_at}

-- uses of a cell, each with its id
abbrev Uses : Type 0
Uses = List (List ℕ × UseBody)

-- the uses of a cell are those of its state
pub uses_seen : (library : LibraryParts) → IsLawfulLibrary library → (cell : ℕ) → cell < length library.contents
    → (view_at (seen library) cell).uses ≡ (cell_at library.tree.cells cell).uses
uses_seen library lawful cell below =
    ap (λ c. c.uses) (cell_viewed library.contents (uses_in library.tree.cells) cell below)
    ∙ uses_at library.tree.cells cell (omega (arith, lawful.so_many, below))

-- a state is there
pub state_is : (library : LibraryParts) → IsLawfulLibrary library → (cell : ℕ) → cell < length library.contents
    → slice_get library.tree.cells cell ≡ Some (cell_at library.tree.cells cell)
state_is library lawful cell below = slice_get-get_or library.tree.cells cell empty_cell (omega (arith, lawful.so_many, below))

-- the depth of a cell is one more than that of what it uses
pub depth_is : (library : LibraryParts) → IsLawfulLibrary library → (cell : ℕ) → cell < length library.contents
    → (size_at library.tree.sizes cell).depth ≡ suc (depth_below (size_at library.tree.sizes) (view_at (seen library) cell).uses)
unfolding size_of
depth_is library lawful cell below =
    ap (λ (s : Size). s.depth) (lawful.tree.sizes.right cell (cell_at library.tree.cells cell) (state_is library lawful cell below))
    ∙ ap (λ (uses : Uses). suc (depth_below (size_at library.tree.sizes) uses)) (sym (uses_seen library lawful cell below))

-- the children of a cell's uses are cells
pub children_are_cells : (library : LibraryParts) → IsLawfulLibrary library → (cell : ℕ) → cell < length library.contents
    → (k : ℕ) (entry : List ℕ × UseBody) → slice_get (view_at (seen library) cell).uses k ≡ Some entry
    → entry.1.child.0 < length library.contents
children_are_cells library lawful cell below k entry is =
    let there : slice_get (cell_at library.tree.cells cell).uses k ≡ Some entry =
    sym (ap (λ (uses : Uses). slice_get uses k) (uses_seen library lawful cell below)) ∙ is in
    let child = (lawful.tree.cells.uses cell (cell_at library.tree.cells cell) (state_is library lawful cell below) k entry there).1 in
    omega (arith, lawful.so_many, child)

-- trees that are the same for the children of uses make the same elements
pub elements_same : (s t : ℕ → CellTree) (uses : Uses)
    → ((k : ℕ) (entry : List ℕ × UseBody) → slice_get uses k ≡ Some entry → s entry.1.child.0 ≡ t entry.1.child.0)
    → elements_from s uses ≡ elements_from t uses
elements_same s t [] agree = refl
elements_same s t (entry ∷ rest) agree =
    λ i. elements_at (agree 0 entry refl i) entry.1.placed (displacements entry.1.grid) (elements_same s t rest (λ k e is. agree (suc k) e is) i)

-- the depth of each child is no more than what is below
child_depth : (s : ℕ → Size) (uses : Uses) (k : ℕ) (entry : List ℕ × UseBody) → slice_get uses k ≡ Some entry
    → (s entry.1.child.0).depth ≤ depth_below s uses
child_depth s [] k entry is = absurd (cc)
child_depth s (first ∷ rest) zero entry is =
    let same : first ≡ entry = cc in
    let here : (s first.1.child.0).depth ≡ (s entry.1.child.0).depth = ap (λ (e : List ℕ × UseBody). (s e.1.child.0).depth) same in
    omega arith
child_depth s (first ∷ rest) (suc k) entry is = let later = child_depth s rest k entry is in omega arith

-- each cell has some depth
some_depth : (library : LibraryParts) → IsLawfulLibrary library → (cell : ℕ) → cell < length library.contents
    → 0 < (size_at library.tree.sizes cell).depth
some_depth library lawful cell below = omega (arith, depth_is library lawful cell below)

-- a tree down to the depth of the cell is whole: one more makes no difference
pub whole_tree : (library : LibraryParts) → IsLawfulLibrary library → (depth cell : ℕ) → cell < length library.contents
    → (size_at library.tree.sizes cell).depth ≤ suc depth → tree_to (seen library) depth cell ≡ tree_to (seen library) (suc depth) cell
whole_tree library lawful zero cell below shallow =
    ap (cell_tree (own_cell (seen library) cell)) (elements_none (view_at (seen library) cell).uses (λ k entry is.
    let child = children_are_cells library lawful cell below k entry is in
    let deep = child_depth (size_at library.tree.sizes) (view_at (seen library) cell).uses k entry is in
    omega (arith, depth_is library lawful cell below, deep, some_depth library lawful entry.1.child.0 child, shallow))) where
      elements_none : (uses : Uses) → ((k : ℕ) (entry : List ℕ × UseBody) → slice_get uses k ≡ Some entry → ⊥)
          → elements_from (tree_to (seen library) zero) [] ≡ elements_from (tree_to (seen library) zero) uses
      elements_none [] none = refl
      elements_none (entry ∷ rest) none = absurd (none 0 entry refl)
whole_tree library lawful (suc depth) cell below shallow =
    ap (cell_tree (own_cell (seen library) cell))
    (elements_same (tree_to (seen library) depth) (tree_to (seen library) (suc depth)) (view_at (seen library) cell).uses (λ k entry is.
    let deep = child_depth (size_at library.tree.sizes) (view_at (seen library) cell).uses k entry is in
    whole_tree library lawful depth entry.1.child.0 (children_are_cells library lawful cell below k entry is)
    (omega (arith, depth_is library lawful cell below, deep, shallow))))

-- the tree of a cell has the trees of its children
pub tree_unfolds : (library : LibraryParts) → IsLawfulLibrary library → (cell : ℕ) → cell < length library.contents
    → tree_at (seen library) cell ≡ cell_tree (own_cell (seen library) cell) (elements_from (tree_at (seen library)) (view_at (seen library) cell).uses)
unfolding tree_at
tree_unfolds library lawful cell below =
    let within : (size_at library.tree.sizes cell).depth ≤ MOST_DEPTH = lawful.tree.sizes.within Depth cell in
    whole_tree library lawful MOST_DEPTH cell below (omega (arith, within))
