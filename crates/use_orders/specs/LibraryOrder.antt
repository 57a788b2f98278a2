-- The library order below a cell: in the order of uses, children before parents, each cell once.
use Rattle.std.specs.Prelude.{ℕ, List, [], ◌∷◌, ◌++◌}
use Rattle.finite_sets.specs.Lists.{In}
use Rattle.use_orders.specs.Uses.{used_by}

-- Visiting cells one after another, where some are listed before, lists those after. A cell that is listed is passed over. For another the
-- children of its uses are visited first, in their order, which does not list the cell itself, and the cell is listed behind them.
pub data Visits (children : List (List ℕ)) : List ℕ → List ℕ → List ℕ → Type 0 where
  none : {before : List ℕ} → Visits children before [] before
  again : {before cells after : List ℕ} {cell : ℕ} → In cell before → Visits children before cells after
      → Visits children before (cell ∷ cells) after
  anew : {before below cells after : List ℕ} {cell : ℕ} → Visits children before (used_by children cell) below → (In cell below → ⊥)
      → Visits children (below ++ cell ∷ []) cells after → Visits children before (cell ∷ cells) after

-- the order in which a visit of the root lists the cells
abbrev pub IsLibraryOrder : List (List ℕ) → ℕ → List ℕ → Type 0
IsLibraryOrder children root order = Visits children [] (root ∷ []) order
