-- A trial of a size in one dimension: what it stands on, what it changes, and what it says where it stops.
use Rattle.std.specs.Prelude.{◌≡◌, ◌≢◌, ℕ, ◌-◌, List, length}
use Rattle.cell_tree.specs.declared.cells.TreeCell.{TreeCell}
use Rattle.cell_tree.specs.declared.sizes.Dimension.{Dimension}
use Rattle.cell_tree.specs.declared.sizes.Size.{Size}
use Rattle.cell_tree.specs.Sizes.{CellState, size_at, AreAlike}
use Rattle.cell_tree.specs.Cells.{states, KnowUsers}
use Rattle.cell_tree.specs.Above.{StandsIn}
use Rattle.cell_tree.specs.Trials.{AreLawfulCells, AreSettledBut, IsTried, PassesFirst}
use Rattle.cell_tree.specs.Books.{ListsAbove}

-- The cells are lawful and know their users, the order has the cell and all above it, and the sizes of all others are settled.
pub record MayPass (dimension : Dimension) (cells : List TreeCell) (cell : ℕ) (order : List ℕ) (sizes : List Size) : Type 0 where
  pub lists : ListsAbove cells cell order
  pub long : length sizes ≡ length cells
  pub lawful : AreLawfulCells (states cells)
  pub known : KnowUsers cells
  pub settled : AreSettledBut dimension (states cells) cell order (length order - 1) sizes

-- The cell kept its size, and no other changed but in this dimension and above the cell.
pub record IsPass (dimension : Dimension) (cell : ℕ) (order : List ℕ) (old new : List Size) : Type 0 where
  pub kept : size_at new cell ≡ size_at old cell
  pub others : (key : ℕ) → (StandsIn order key → ⊥) → size_at new key ≡ size_at old key
  pub alike : (other : Dimension) → other ≢ dimension → (key : ℕ) → AreAlike other (size_at new key) (size_at old key)

-- Were the cell of this size, this dimension's limit would be the first that it or one above it passes.
abbrev pub WouldPassFirst : Dimension → List CellState → List Size → ℕ → Size → Type 0
WouldPassFirst dimension cells sizes cell size = (tried : List Size) → IsTried cells sizes tried cell size → PassesFirst dimension cells cell tried
