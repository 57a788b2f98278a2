-- Cells that come all at once, which of them refuse that, and the uses of cells as a graph.
use Rattle.std.specs.Prelude.{◌≡◌, ◌<◌, ◌≤◌, ℕ, suc, List, ◌++◌, length, map, All}
use Rattle.cell_tree.specs.declared.faults.TreeFault.{TreeFault}
use Rattle.cell_tree.specs.declared.faults.TreeFault.TheVariants.{Cycle, Passed, Memory}
use Rattle.cell_tree.specs.declared.limits.TheConstants.{MOST_USES}
use Rattle.cell_tree.specs.declared.new_cells.NewCell.{NewCell}
use Rattle.cell_tree.specs.declared.sizes.Dimension.{Dimension}
use Rattle.cell_tree.specs.declared.sizes.Size.{Size}
use Rattle.cell_tree.specs.Cells.{Uses, IsAbove}
use Rattle.cell_tree.specs.Sizes.{CellState, size_at, AreSizes, AreUsesBelow, IsWithin}
use Rattle.cell_tree.specs.Trees.{Tree, IsLawfulCell}
use Rattle.cell_tree.specs.Trials.{ComesBefore}

-- for each cell the children of its uses, in their order
abbrev pub children_of : List CellState → List (List ℕ)
children_of cells = map (λ cell. map (λ entry. entry.1.child.0) cell.uses) cells

-- a cell that comes, with its uses
abbrev pub new_state : NewCell → CellState
new_state cell = record { own = cell.own; uses = map (λ entry. (entry.0.items, entry.1)) cell.uses.items }

-- the cells that come
abbrev pub new_states : List NewCell → List CellState
new_states cells = map new_state cells

-- A cell that may come, where there are so many cells then: its uses are few and lawful and have ids of their own, their children are
-- cells, and its box is lawful.
pub record MayCome (count : ℕ) (cell : CellState) : Type 0 where
  pub few : length cell.uses ≤ MOST_USES
  pub uses : AreUsesBelow count cell.uses
  pub lawful : IsLawfulCell cell

-- They may all come to the tree.
abbrev pub MayAllCome : Tree → List CellState → Type 0
MayAllCome tree more = All (MayCome (length (tree.cells ++ more))) more

-- The cells came at the end, as one edit, whose number is the stamp of each. Those that were there keep their sizes and stamps.
pub record AreAdded (old new : Tree) (more : List CellState) : Type 0 where
  pub cells : new.cells ≡ old.cells ++ more
  pub sizes : (key : ℕ) → key < length old.cells → size_at new.sizes key ≡ size_at old.sizes key
  pub edits : new.edits ≡ suc old.edits
  pub stamps : new.stamps ≡ old.stamps ++ map (λ _. new.edits) more

-- The cell stands below itself: it uses itself, or a cell that stands above it.
pub record IsBelowItself (cells : List CellState) (cell : ℕ) : Type 0 where
  pub child : ℕ
  pub used : Uses cells cell child
  pub above : IsAbove cells cell child

-- It is the first such cell.
pub record IsFirstBelowItself (cells : List CellState) (cell : ℕ) : Type 0 where
  pub below : IsBelowItself cells cell
  pub first : (other : ℕ) → other < cell → IsBelowItself cells other → ⊥

-- No cell stands below itself, and some cell passes the limit of this dimension, and none the limit of one that is looked at before.
pub record PassesWithAll (dimension : Dimension) (cells : List CellState) : Type 0 where
  pub acyclic : (cell : ℕ) → IsBelowItself cells cell → ⊥
  pub sizes : List Size
  pub count : length sizes ≡ length cells
  pub right : AreSizes cells sizes
  pub cell : ℕ
  pub there : cell < length cells
  pub passes : IsWithin dimension (size_at sizes cell) → ⊥
  pub before : (other : Dimension) → ComesBefore other dimension → (key : ℕ) → IsWithin other (size_at sizes key)

-- what refuses that these cells come; want of memory may always
abbrev pub RefusesAll : Tree → List CellState → TreeFault → Type 0
RefusesAll tree more (Cycle cell) = IsFirstBelowItself (tree.cells ++ more) cell
RefusesAll tree more (Passed dimension) = PassesWithAll dimension (tree.cells ++ more)
RefusesAll tree more Memory = Unit {0}
RefusesAll tree more _ = ⊥
