-- What an edit of one cell makes of the sizes of the cells above it.
use Rattle.std.specs.Prelude.{◌≡◌, ◌≢◌, ℕ, ◌<◌, ◌≤◌, List, length, Some, slice_get, slice_set}
use Rattle.cell_tree.specs.declared.limits.TheConstants.{MOST_USES}
use Rattle.cell_tree.specs.declared.sizes.Dimension.{Dimension}
use Rattle.cell_tree.specs.declared.sizes.Dimension.TheVariants.{Depth, Elements, Hull}
use Rattle.cell_tree.specs.declared.sizes.Size.{Size}
use Rattle.cell_tree.specs.Sizes.{CellState, size_at, size_of, with_dimension, IsWithin, AreAlike, AreSizes, AreUsesBelow}
use Rattle.cell_tree.specs.Cells.{IsAbove}
use Rattle.cell_tree.specs.Above.{at, StandsBefore}

-- Each cell but this one, and but those that stand before a place of the order, has in this dimension the size that the sizes of its
-- children give.
abbrev pub AreSettledBut : Dimension → List CellState → ℕ → List ℕ → ℕ → List Size → Type 0
AreSettledBut dimension cells changed order end sizes =
    (key : ℕ) (cell : CellState) → slice_get cells key ≡ Some cell → key ≢ changed → (StandsBefore order end key → ⊥)
    → AreAlike dimension (size_at sizes key) (size_of (size_at sizes) cell)

-- The sizes of the cells, were one of them of this size: those that don't stand above it stay, and each of the others has the size that
-- the sizes of its children give.
pub record IsTried (cells : List CellState) (sizes tried : List Size) (changed : ℕ) (size : Size) : Type 0 where
  pub others : (key : ℕ) → (IsAbove cells changed key → ⊥) → size_at tried key ≡ size_at sizes key
  pub right : (key : ℕ) (cell : CellState) → slice_get cells key ≡ Some cell → key ≢ changed → size_at tried key ≡ size_of (size_at tried) cell
  pub given : size_at tried changed ≡ size

-- The first dimension is looked at before the second.
abbrev pub ComesBefore : Dimension → Dimension → Type 0
ComesBefore Depth Elements = Unit {0}
ComesBefore Depth Hull = Unit {0}
ComesBefore Elements Hull = Unit {0}
ComesBefore _ _ = ⊥

-- With these sizes the cell or one above it passes the limit of this dimension, and none passes one that is looked at before.
pub record PassesFirst (dimension : Dimension) (cells : List CellState) (changed : ℕ) (sizes : List Size) : Type 0 where
  pub key : ℕ
  pub above : IsAbove cells changed key
  pub passes : IsWithin dimension (size_at sizes key) → ⊥
  pub before : (other : Dimension) → ComesBefore other dimension → (key : ℕ) → IsAbove cells changed key → IsWithin other (size_at sizes key)

-- The cells are lawful, apart from their own boxes and ids: uses are few and lawful, and their children are cells.
pub record AreLawfulCells (cells : List CellState) : Type 0 where
  pub few : (key : ℕ) (cell : CellState) → slice_get cells key ≡ Some cell → length cell.uses ≤ MOST_USES
  pub uses : (key : ℕ) (cell : CellState) → slice_get cells key ≡ Some cell → AreUsesBelow (length cells) cell.uses

-- The sizes are right, within all limits, and one for each cell.
pub record AreLawfulSizes (cells : List CellState) (sizes : List Size) : Type 0 where
  pub count : length sizes ≡ length cells
  pub right : AreSizes cells sizes
  pub within : (dimension : Dimension) (key : ℕ) → IsWithin dimension (size_at sizes key)

-- The size at a position took the value of this size in this dimension, and nothing else changed.
abbrev pub SetsDimension : Dimension → ℕ → Size → List Size → List Size → Type 0
SetsDimension dimension key size old new =
    (from : Size) × (AreAlike dimension from size) × (new ≡ slice_set old key (with_dimension dimension (size_at old key) from))

-- All sizes are worked out in this dimension, and keep within its limit.
pub record IsDone (dimension : Dimension) (cells : List CellState) (changed : ℕ) (order : List ℕ) (sizes : List Size) : Type 0 where
  pub settled : AreSettledBut dimension cells changed order 0 sizes
  pub within : (key : ℕ) → IsWithin dimension (size_at sizes key)

-- Sizes are worked out in this dimension from a place of the order on, and there one passes the limit.
pub record StopsIn (dimension : Dimension) (cells : List CellState) (changed : ℕ) (order : List ℕ) (sizes : List Size) : Type 0 where
  pub place : ℕ
  pub before : place < length order
  pub settled : AreSettledBut dimension cells changed order place sizes
  pub passes : IsWithin dimension (size_at sizes (at order place)) → ⊥

-- The cell may have this size: with the sizes that the cells have then all keep within the limits.
pub record FitsIn (cells : List CellState) (sizes : List Size) (changed : ℕ) (size : Size) : Type 0 where
  pub tried : List Size
  pub count : length tried ≡ length cells
  pub is_tried : IsTried cells sizes tried changed size
  pub within : (dimension : Dimension) (key : ℕ) → IsWithin dimension (size_at tried key)
