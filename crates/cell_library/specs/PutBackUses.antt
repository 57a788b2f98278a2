-- Uses that are given back to a cell.
use Rattle.std.specs.Prelude.{◌≡◌, ◌<◌, ℕ, List, Option, slice_set}
use Rattle.std.specs.List.{position}
use Rattle.std.specs.Str.{bytes_eq}
use Rattle.geo_core.specs.declared.grids.Grid.{Grid}
use Rattle.cell_tree.specs.declared.use_tables.UseBody.{UseBody}
use Rattle.cell_tree.specs.Sizes.{CellState}
use Rattle.cell_tree.specs.Trees.{Tree, IsEdited, IsLawfulTree, cell_at, with_inserted, with_moved}
use Rattle.cell_library.specs.declared.limits.TheConstants.{MOST_EDITS}
use Rattle.cell_library.specs.steps.CellEdits.{HasUseAt}

-- the place of the use with the id
abbrev pub place_of : List (List ℕ × UseBody) → List ℕ → Option ℕ
place_of uses id = position (λ entry. bytes_eq entry.0 id) uses

-- The cell may take the state: some lawful tree has these cells, but this one of that state.
pub record MayTake (tree : Tree) (cell : ℕ) (state : CellState) : Type 0 where
  pub other : Tree
  pub lawful : IsLawfulTree other
  pub cells : other.cells ≡ slice_set tree.cells cell state

-- The use with the id may have the grid, or none.
abbrev pub MayBeRegridded : Tree → ℕ → List ℕ → Option Grid → Type 0
MayBeRegridded tree cell id grid =
    (k : ℕ) (used : UseBody) → HasUseAt (cell_at tree.cells cell) id k used → MayTake tree cell (with_moved (cell_at tree.cells cell) k used.placed grid)

-- The use came to a place among those of the cell.
pub record IsInsertedIn (cell at : ℕ) (id : List ℕ) (used : UseBody) (before after : Tree) : Type 0 where
  pub edits : before.edits < MOST_EDITS
  pub edited : IsEdited before after cell (with_inserted (cell_at before.cells cell) at id used)

-- The use with the id was given the grid, or none.
pub record IsRegriddedIn (cell : ℕ) (id : List ℕ) (grid : Option Grid) (before after : Tree) : Type 0 where
  pub edits : before.edits < MOST_EDITS
  pub k : ℕ
  pub used : UseBody
  pub has : HasUseAt (cell_at before.cells cell) id k used
  pub edited : IsEdited before after cell (with_moved (cell_at before.cells cell) k used.placed grid)
