-- Cells as they are kept, and which use which.
use Rattle.std.specs.Prelude.{◌≡◌, ℕ, List, [], map, Contains, Some, slice_get}
use Rattle.std.specs.Option.{option_map_or}
use Rattle.geo_core.specs.FiniteSets.Chain.{Chain}
use Rattle.cell_tree.specs.declared.cells.TreeCell.{TreeCell}
use Rattle.cell_tree.specs.declared.use_tables.UseBody.{UseBody}
use Rattle.cell_tree.specs.Sizes.{CellState}

-- what callers see of a cell
abbrev pub state_of : TreeCell → CellState
state_of cell = record { own = cell.own; uses = cell.uses.entries }

-- what callers see of the cells
abbrev pub states : List TreeCell → List CellState
states cells = map state_of cells

-- The upper cell has a use of the lower one.
pub record Uses (cells : List CellState) (upper lower : ℕ) : Type 0 where
  pub cell : CellState
  pub is : slice_get cells upper ≡ Some cell
  pub k : ℕ
  pub entry : List ℕ × UseBody
  pub stands : slice_get cell.uses k ≡ Some entry
  pub child : entry.1.child.0 ≡ lower

-- The second cell is the first, or has a use of a cell that is above the first: it stands above by a chain of uses.
abbrev pub IsAbove : List CellState → ℕ → ℕ → Type 0
IsAbove cells lower upper = Chain (λ a b. Uses cells b a) lower upper

-- the positions of the users that the cell at the position knows
abbrev pub users_of : List TreeCell → ℕ → List ℕ
users_of cells key = option_map_or (λ cell. cell.users.keys) (slice_get cells key) []

-- Each cell knows the cells that use it, and no others.
pub record KnowUsers (cells : List TreeCell) : Type 0 where
  pub known : (key user : ℕ) → Uses (states cells) user key → Contains (users_of cells key) user
  pub none : (key user : ℕ) → Contains (users_of cells key) user → Uses (states cells) user key
