-- Trees of cells: which are lawful, what an edit changes, and what refuses one.
use Rattle.std.specs.Prelude.{◌≡◌, ℕ, suc, ◌<◌, ◌≤◌, List, [], ◌∷◌, ◌++◌, length, map, insert, remove, Option, Some, None, slice_get, slice_set, slice_index_or}
use Rattle.geo_core.specs.declared.squares.Rect.{Rect}
use Rattle.geo_core.specs.declared.grids.Grid.{Grid}
use Rattle.geo_core.specs.declared.transforms.Transform.{Transform}
use Rattle.geo_core.specs.FiniteSets.Lists.{Distinct}
use Rattle.cell_tree.specs.declared.faults.TreeFault.{TreeFault}
use Rattle.cell_tree.specs.declared.faults.TreeFault.TheVariants.{Cycle, TooManyUses, Passed, Memory}
use Rattle.cell_tree.specs.declared.limits.TheConstants.{MOST_USES}
use Rattle.cell_tree.specs.declared.sizes.Dimension.{Dimension}
use Rattle.cell_tree.specs.declared.sizes.Dimension.TheVariants.{Elements, Hull}
use Rattle.cell_tree.specs.declared.sizes.Size.{Size}
use Rattle.cell_tree.specs.declared.use_tables.UseBody.{UseBody}
use Rattle.cell_tree.specs.Uses.{moved_at, with_use_at}
use Rattle.cell_tree.specs.Hulls.{IsLawfulBox}
use Rattle.cell_tree.specs.Sizes.{CellState, size_at, own_size, AreSizes, IsWithin}
use Rattle.cell_tree.specs.Cells.{IsAbove}
use Rattle.cell_tree.specs.Trials.{AreLawfulCells, AreLawfulSizes, PassesFirst}

-- cells by their positions, the size and the stamp of each, and how many edits there were
pub record Tree : Type 0 where
  pub cells : List CellState
  pub sizes : List Size
  pub stamps : List ℕ
  pub edits : ℕ

-- the stamp of the cell at a position
abbrev pub stamp_at : List ℕ → ℕ → ℕ
stamp_at stamps key = slice_index_or stamps key 0

-- the cell without material and uses
abbrev pub empty_cell : CellState
empty_cell = record { own = None; uses = [] }

-- the cell at a position
abbrev pub cell_at : List CellState → ℕ → CellState
cell_at cells key = slice_index_or cells key empty_cell

-- the tree without cells
abbrev pub empty_tree : Tree
empty_tree = record { cells = []; sizes = []; stamps = []; edits = 0 }

-- No two uses of the cell have one id, and its own box lies within the range of paint and is not turned inside out.
pub record IsLawfulCell (cell : CellState) : Type 0 where
  pub ids : Distinct (map (λ entry. entry.0) cell.uses)
  pub own : (box : Rect) → cell.own ≡ Some box → IsLawfulBox box

-- Cells and uses are lawful, the sizes are right and within the limits, and no stamp is later than the last edit. Depth falls from a cell
-- to its children, so no cell is its own descendant.
pub record IsLawfulTree (tree : Tree) : Type 0 where
  pub cells : AreLawfulCells tree.cells
  pub each : (key : ℕ) (cell : CellState) → slice_get tree.cells key ≡ Some cell → IsLawfulCell cell
  pub sizes : AreLawfulSizes tree.cells tree.sizes
  pub stamps : length tree.stamps ≡ length tree.cells
  pub past : (key : ℕ) → stamp_at tree.stamps key ≤ tree.edits

-- The stamp of the cell and of each above it is that of this edit, and no other stamp changed.
pub record RaisesStamps (cells : List CellState) (cell : ℕ) (old new : List ℕ) (edits : ℕ) : Type 0 where
  pub count : length new ≡ length old
  pub raised : (key : ℕ) → IsAbove cells cell key → stamp_at new key ≡ edits
  pub others : (key : ℕ) → (IsAbove cells cell key → ⊥) → stamp_at new key ≡ stamp_at old key

-- A cell without material and uses came at the end, as the next edit.
pub record IsAdded (old new : Tree) : Type 0 where
  pub cells : new.cells ≡ old.cells ++ empty_cell ∷ []
  pub sizes : new.sizes ≡ old.sizes ++ own_size None ∷ []
  pub stamps : new.stamps ≡ old.stamps ++ new.edits ∷ []
  pub edits : new.edits ≡ suc old.edits

-- An edit changed this one cell: it is the next edit, and stamps the cell and all above it. The sizes of all other cells stay.
pub record IsEdited (old new : Tree) (cell : ℕ) (state : CellState) : Type 0 where
  pub cells : new.cells ≡ slice_set old.cells cell state
  pub edits : new.edits ≡ suc old.edits
  pub stamps : RaisesStamps old.cells cell old.stamps new.stamps new.edits
  pub others : (key : ℕ) → (IsAbove old.cells cell key → ⊥) → size_at new.sizes key ≡ size_at old.sizes key

-- Were the cell of this state, it or one above it would pass the limit of this dimension, and none one that is looked at before: so it is
-- with the sizes that the cells would have.
pub record WouldPass (dimension : Dimension) (tree : Tree) (cell : ℕ) (state : CellState) : Type 0 where
  pub sizes : List Size
  pub count : length sizes ≡ length tree.cells
  pub right : AreSizes (slice_set tree.cells cell state) sizes
  pub passes : PassesFirst dimension tree.cells cell sizes

-- The cell could be of this state: it and all above it would keep within all limits.
pub record WouldKeepWithin (tree : Tree) (cell : ℕ) (state : CellState) : Type 0 where
  pub sizes : List Size
  pub count : length sizes ≡ length tree.cells
  pub right : AreSizes (slice_set tree.cells cell state) sizes
  pub within : (dimension : Dimension) (key : ℕ) → IsWithin dimension (size_at sizes key)

-- the cell with another own box
abbrev pub with_own : CellState → Option Rect → CellState
with_own cell own = record cell { own = own }

-- the cell with one more use, at the end
abbrev pub with_placed : CellState → List ℕ → UseBody → CellState
with_placed cell id used = record cell { uses = cell.uses ++ (id, used) ∷ [] }

-- the cell with one more use, at a place
abbrev pub with_inserted : CellState → ℕ → List ℕ → UseBody → CellState
with_inserted cell at id used = record cell { uses = insert cell.uses at (id, used) }

-- the cell with the k-th use placed otherwise, and with another grid or none
abbrev pub with_moved : CellState → ℕ → Transform → Option Grid → CellState
with_moved cell k placed grid = record cell { uses = moved_at cell.uses k placed grid }

-- the cell with another body of the k-th use
abbrev pub with_use_set : CellState → ℕ → UseBody → CellState
with_use_set cell k used = record cell { uses = with_use_at cell.uses k used }

-- the cell without its k-th use
abbrev pub without_use : CellState → ℕ → CellState
without_use cell k = record cell { uses = remove cell.uses k }

-- The box is missing, or lawful.
abbrev pub IsLawfulOwn : Option Rect → Type 0
IsLawfulOwn own = (box : Rect) → own ≡ Some box → IsLawfulBox box

-- what refuses another own box
abbrev pub RefusesBox : Tree → ℕ → Option Rect → TreeFault → Type 0
RefusesBox tree cell own (Passed Hull) = WouldPass Hull tree cell (with_own (cell_at tree.cells cell) own)
RefusesBox tree cell own _ = ⊥

-- what refuses that a use is placed otherwise
abbrev pub RefusesMove : Tree → ℕ → ℕ → Transform → Option Grid → TreeFault → Type 0
RefusesMove tree cell k placed grid (Passed Elements) = WouldPass Elements tree cell (with_moved (cell_at tree.cells cell) k placed grid)
RefusesMove tree cell k placed grid (Passed Hull) = WouldPass Hull tree cell (with_moved (cell_at tree.cells cell) k placed grid)
RefusesMove tree cell k placed grid _ = ⊥

-- A use of the child makes no cycle: the child is neither the cell nor one above it.
abbrev pub IsFree : Tree → ℕ → UseBody → Type 0
IsFree tree cell used = IsAbove tree.cells cell used.child.0 → ⊥

-- One more use makes no cycle and the cell has room for it, but a limit would be passed, that of this dimension first.
pub record RefusesGrowth (tree : Tree) (cell : ℕ) (id : List ℕ) (used : UseBody) (dimension : Dimension) : Type 0 where
  pub free : IsFree tree cell used
  pub few : length (cell_at tree.cells cell).uses < MOST_USES
  pub passes : WouldPass dimension tree cell (with_placed (cell_at tree.cells cell) id used)

-- what refuses one more use; want of memory may always
abbrev pub RefusesUse : Tree → ℕ → List ℕ → UseBody → TreeFault → Type 0
RefusesUse tree cell id used (Cycle key) = (key ≡ used.child.0) × IsAbove tree.cells cell used.child.0
RefusesUse tree cell id used TooManyUses = IsFree tree cell used × (length (cell_at tree.cells cell).uses ≡ MOST_USES)
RefusesUse tree cell id used (Passed dimension) = RefusesGrowth tree cell id used dimension
RefusesUse tree cell id used Memory = Unit {0}

-- what refuses one more use at a place, where it makes no cycle and the cell has room for it; want of memory may always
abbrev pub RefusesInsertion : Tree → ℕ → ℕ → List ℕ → UseBody → TreeFault → Type 0
RefusesInsertion tree cell at id used (Passed dimension) = WouldPass dimension tree cell (with_inserted (cell_at tree.cells cell) at id used)
RefusesInsertion tree cell at id used Memory = Unit {0}
RefusesInsertion tree cell at id used _ = ⊥

-- the cell with other uses
abbrev pub with_uses : CellState → List (List ℕ × UseBody) → CellState
with_uses cell uses = record cell { uses = uses }
