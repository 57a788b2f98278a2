-- Cells that use each other: for each cell, by its number, the children of its uses in their order.
use Rattle.std.specs.Prelude.{ℕ, ◌<◌, ◌≤◌, List, [], length, take, slice_index, slice_index_or}
use Rattle.finite_sets.specs.Chain.{Chain}
use Rattle.finite_sets.specs.Lists.{In}

-- the children of a cell's uses, in order
abbrev pub used_by : List (List ℕ) → ℕ → List ℕ
used_by children cell = slice_index_or children cell []

-- the parent has a use of the child
abbrev pub UsesCell : List (List ℕ) → ℕ → ℕ → Type 0
UsesCell children parent child = In child (used_by children parent)

-- each child is one of the cells
abbrev pub AreCells : List (List ℕ) → Type 0
AreCells children = (parent child : ℕ) → UsesCell children parent child → child < length children

-- the cell is the root, or uses lead from the root down to it
abbrev pub IsAtOrBelow : List (List ℕ) → ℕ → ℕ → Type 0
IsAtOrBelow children root cell = Chain (UsesCell children) root cell

-- one step or more lead from the cell down to the other
abbrev pub IsDescendant : (ℕ → ℕ → Type 0) → ℕ → ℕ → Type 0
IsDescendant Step cell other = (child : ℕ) × (Step cell child × Chain Step child other)

-- no cell at or below the root is its own descendant
abbrev pub IsAcyclicBelow : List (List ℕ) → ℕ → Type 0
IsAcyclicBelow children root = (cell : ℕ) → IsAtOrBelow children root cell → IsDescendant (UsesCell children) cell cell → ⊥

-- the parent has a use of the child, and both are new: their numbers are not below the first
abbrev pub UsesNewCell : List (List ℕ) → ℕ → ℕ → ℕ → Type 0
UsesNewCell children first parent child = (first ≤ parent) × (first ≤ child) × UsesCell children parent child

-- each cell of the list stands behind those to which a step leads from it
abbrev pub AreBehindChildren : (ℕ → ℕ → Type 0) → List ℕ → Type 0
AreBehindChildren Step order =
    (place child : ℕ) → place < length order → Step (slice_index order place) child → In child (take place order)
