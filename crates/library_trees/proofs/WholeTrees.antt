-- The named trees of the cells of a lawful library: enough depth makes them whole.
use Rattle.library_trees.proofs.Common.{◌≡◌, ◌<◌, ◌≤◌, ℕ, zero, suc, List, [], ◌∷◌, length, refl, sym, ap, ◌∙◌, arith, Some, slice_get, NamedTree}
use Rattle.library_trees.proofs.Common.{named_tree, MOST_DEPTH, Depth, Size, UseBody, CellState, size_at, cell_at, child_is_lower, LibraryParts}
use Rattle.library_trees.proofs.Common.{IsLawfulLibrary, cells_seen, seen, uses_in, no_cell, view_at, children_are_cells, uses_seen, depth_is}
use Rattle.library_trees.proofs.Common.{state_is, length-cell_views, use_elements, named_elements_at, named_elements_from, named_tree_to}
use Rattle.std.proofs.Math.ListN.{get_or-eq_default}
use Rattle.library_trees.specs.NamedCells.{named_tree_at, own_body_of}

-- uses of a cell, each with its id
abbrev pub UsesWithIds : Type 0
UsesWithIds = List (List ℕ × UseBody)

-- at a position without a cell no cell is seen
pub no_cell_seen : (library : LibraryParts) → (cell : ℕ) → length library.contents ≤ cell → view_at (seen library) cell ≡ no_cell
no_cell_seen library cell past =
    get_or-eq_default (cells_seen library.contents library.tree) no_cell
    (omega (arith, length-cell_views library.contents (uses_in library.tree.cells), past))

-- a child is less deep than a cell that uses it
child_is_less_deep : (library : LibraryParts) → IsLawfulLibrary library → (cell : ℕ) → cell < length library.contents
    → (k : ℕ) (entry : List ℕ × UseBody) → slice_get (view_at (seen library) cell).uses k ≡ Some entry
    → (size_at library.tree.sizes entry.1.child.0).depth < (size_at library.tree.sizes cell).depth
child_is_less_deep library lawful cell below k entry is =
    let state : CellState = cell_at library.tree.cells cell in
    let there : slice_get state.uses k ≡ Some entry =
    sym (ap (λ (uses : UsesWithIds). slice_get uses k) (uses_seen library lawful cell below)) ∙ is in
    let size = ap (λ (s : Size). s.depth) (lawful.tree.sizes.right cell state (state_is library lawful cell below)) in
    omega (arith, size, child_is_lower (size_at library.tree.sizes) state k entry there)

-- trees that are the same for the children of uses make the same elements
pub named_elements_same : (s t : ℕ → NamedTree) (uses : UsesWithIds)
    → ((k : ℕ) (entry : List ℕ × UseBody) → slice_get uses k ≡ Some entry → s entry.1.child.0 ≡ t entry.1.child.0)
    → named_elements_from s uses ≡ named_elements_from t uses
named_elements_same s t [] agree = refl
named_elements_same s t (entry ∷ rest) agree =
    λ i. named_elements_at (agree 0 entry refl i) entry.1.placed (use_elements entry.0 entry.1.grid)
    (named_elements_same s t rest (λ k e is. agree (suc k) e is) i)

-- uses of which there is none make no elements
no_uses : (s t : ℕ → NamedTree) (uses : UsesWithIds) → ((k : ℕ) (entry : List ℕ × UseBody) → slice_get uses k ≡ Some entry → ⊥)
    → named_elements_from s [] ≡ named_elements_from t uses
no_uses s t [] none = refl
no_uses s t (entry ∷ rest) none = absurd (none 0 entry refl)

-- a tree down to the depth of the cell is whole: one more makes no difference
whole_tree : (library : LibraryParts) → IsLawfulLibrary library → (depth cell : ℕ) → cell < length library.contents
    → (size_at library.tree.sizes cell).depth ≤ suc depth
    → named_tree_to (seen library) depth cell ≡ named_tree_to (seen library) (suc depth) cell
whole_tree library lawful zero cell below shallow =
    ap (named_tree (own_body_of (seen library) cell))
    (no_uses (named_tree_to (seen library) zero) (named_tree_to (seen library) zero) (view_at (seen library) cell).uses (λ k entry is.
    let child = children_are_cells library lawful cell below k entry is in
    omega (arith, child_is_less_deep library lawful cell below k entry is, depth_is library lawful entry.1.child.0 child, shallow)))
whole_tree library lawful (suc depth) cell below shallow =
    ap (named_tree (own_body_of (seen library) cell))
    (named_elements_same (named_tree_to (seen library) depth) (named_tree_to (seen library) (suc depth)) (view_at (seen library) cell).uses
    (λ k entry is.
    whole_tree library lawful depth entry.1.child.0 (children_are_cells library lawful cell below k entry is)
    (omega (arith, child_is_less_deep library lawful cell below k entry is, shallow))))

-- the named tree of a cell has the named trees of its children
pub named_tree_unfolds : (library : LibraryParts) → IsLawfulLibrary library → (cell : ℕ) → cell < length library.contents
    → named_tree_at (seen library) cell
    ≡ named_tree (own_body_of (seen library) cell) (named_elements_from (named_tree_at (seen library)) (view_at (seen library) cell).uses)
unfolding named_tree_at
named_tree_unfolds library lawful cell below =
    let within : (size_at library.tree.sizes cell).depth ≤ MOST_DEPTH = lawful.tree.sizes.within Depth cell in
    whole_tree library lawful MOST_DEPTH cell below (omega (arith, within))
