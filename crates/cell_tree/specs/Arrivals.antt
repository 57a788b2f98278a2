-- Cells that come at the end, behind those that were there: the order in which they are worked out, what that makes of their sizes, and
-- which users are known meanwhile.
use Rattle.std.specs.Prelude.{◌≡◌, ◌≢◌, ◌⊎◌, ◌↔◌, ℕ, suc, ◌-◌, ◌<◌, ◌≤◌, List, [], ◌++◌, length, map, replicate, Some, slice_get, vec_capacity}
use Rattle.geo_core.specs.FiniteSets.Lists.{Distinct}
use Rattle.cell_tree.specs.declared.cells.TreeCell.{TreeCell}
use Rattle.cell_tree.specs.declared.faults.TreeFault.{TreeFault}
use Rattle.cell_tree.specs.declared.faults.TreeFault.TheVariants.{Cycle, Passed, Memory}
use Rattle.cell_tree.specs.declared.size_books.SizeBook.{SizeBook}
use Rattle.cell_tree.specs.declared.sizes.Dimension.{Dimension}
use Rattle.cell_tree.specs.declared.sizes.Size.{Size}
use Rattle.cell_tree.specs.declared.use_tables.UseBody.{UseBody}
use Rattle.cell_tree.specs.Sizes.{CellState, size_at, size_of, IsWithin, AreAlike, AreSizes}
use Rattle.cell_tree.specs.Cells.{state_of, states, Uses}
use Rattle.cell_tree.specs.Above.{IsUserOf, at, StandsBefore, StandsIn}
use Rattle.cell_tree.specs.Trees.{cell_at}
use Rattle.cell_tree.specs.Trials.{AreLawfulCells}
use Rattle.cell_tree.specs.Books.{IsReady}
use Rattle.cell_tree.specs.Additions.{IsFirstBelowItself, PassesWithAll}

-- The cell was there, or stands before a place of the order.
abbrev pub IsSettled : ℕ → List ℕ → ℕ → ℕ → Type 0
IsSettled first order place key = (key < first) ⊎ StandsBefore order place key

-- The order has each cell from the first new one on once and nothing else, each behind its new children. Cells that were there use
-- none but such.
pub record IsNewOrder (cells : List CellState) (first : ℕ) (order : List ℕ) : Type 0 where
  pub within : (place : ℕ) → place < length order → at order place < length cells
  pub new : (place : ℕ) → place < length order → first ≤ at order place
  pub once : (p q : ℕ) → p < q → q < length order → at order p ≢ at order q
  pub all : (key : ℕ) → first ≤ key → key < length cells → StandsIn order key
  pub behind : (place child : ℕ) → place < length order → Uses cells (at order place) child → IsSettled first order place child
  pub old : (key child : ℕ) → key < first → Uses cells key child → child < first

-- Each settled cell has in this dimension the size that the sizes of its children give.
abbrev pub AreRightTo : Dimension → List CellState → ℕ → List ℕ → ℕ → List Size → Type 0
AreRightTo dimension cells first order place sizes =
    (key : ℕ) (cell : CellState) → slice_get cells key ≡ Some cell → IsSettled first order place key
    → AreAlike dimension (size_at sizes key) (size_of (size_at sizes) cell)

-- And keeps within the limit.
pub record AreSettled (dimension : Dimension) (cells : List CellState) (first : ℕ) (order : List ℕ) (place : ℕ) (sizes : List Size) : Type 0 where
  pub right : AreRightTo dimension cells first order place sizes
  pub within : (key : ℕ) → IsSettled first order place key → IsWithin dimension (size_at sizes key)

-- Nothing changed but this dimension of the new sizes.
pub record AreKept (dimension : Dimension) (first : ℕ) (old new : List Size) : Type 0 where
  pub kept : (key : ℕ) → key < first → size_at new key ≡ size_at old key
  pub others : (other : Dimension) → other ≢ dimension → (key : ℕ) → AreAlike other (size_at new key) (size_at old key)

-- The cell at a place of the order passes the limit of this dimension, where sizes are worked out up to it.
pub record StopsAt (dimension : Dimension) (cells : List CellState) (first : ℕ) (order : List ℕ) (sizes : List Size) : Type 0 where
  pub place : ℕ
  pub before : place < length order
  pub right : AreRightTo dimension cells first order (suc place) sizes
  pub passes : IsWithin dimension (size_at sizes (at order place)) → ⊥

-- No two of the uses have one id.
abbrev pub HaveOwnIds : List (List ℕ × UseBody) → Type 0
HaveOwnIds uses = Distinct (map (λ entry. entry.0) uses)

-- The cell is kept as it comes, and no cell is known to use it.
pub record IsKeptAs (kept : TreeCell) (cell : CellState) : Type 0 where
  pub state : state_of kept ≡ cell
  pub unused : kept.users.keys ≡ []

-- Each cell knows the cells before this one that use it, and no others.
pub record KnowUsersTo (cells : List TreeCell) (end : ℕ) : Type 0 where
  pub known : (key user : ℕ) → user < end → Uses (states cells) user key → IsUserOf cells key user
  pub uses : (key user : ℕ) → IsUserOf cells key user → Uses (states cells) user key
  pub before : (key user : ℕ) → IsUserOf cells key user → user < end

-- Each cell knows the cells before the first that use it, and of the others some.
pub record KnowUsersFrom (cells : List TreeCell) (first : ℕ) : Type 0 where
  pub known : (key user : ℕ) → user < first → Uses (states cells) user key → IsUserOf cells key user
  pub uses : (key user : ℕ) → IsUserOf cells key user → Uses (states cells) user key

-- Other cells came behind those that were there, and no cell knows one of them as its user.
pub record AreBehind (old new : List TreeCell) : Type 0 where
  pub more : List CellState
  pub is : states new ≡ states old ++ more
  pub users : KnowUsersTo new (length old)

-- The children of the cell's uses before a place don't know it, and otherwise users are as they were.
pub record AreForgotten (old new : List TreeCell) (cell place : ℕ) : Type 0 where
  pub same : states new ≡ states old
  pub others : (key user : ℕ) → user ≢ cell → IsUserOf new key user ↔ IsUserOf old key user
  pub only : (key : ℕ) → IsUserOf new key cell → IsUserOf old key cell
  pub gone : (k : ℕ) (entry : List ℕ × UseBody) → k < place → slice_get (cell_at (states old) cell).uses k ≡ Some entry
      → IsUserOf new entry.1.child.0 cell → ⊥

-- The book has room for so many cells.
pub record HasRoomForAll (book : SizeBook) (count : ℕ) : Type 0 where
  pub sizes : count ≤ vec_capacity book.sizes
  pub next : count ≤ vec_capacity book.next
  pub stamps : count ≤ vec_capacity book.stamps
  pub seen : count ≤ vec_capacity book.seen
  pub order : count ≤ vec_capacity book.order

-- The book has the sizes of so many cells, of which those from the first on came as one more edit.
pub record IsExtended (cells : List CellState) (first count : ℕ) (old new : SizeBook) : Type 0 where
  pub ready : IsReady new count
  pub right : AreSizes cells new.sizes.items
  pub within : (dimension : Dimension) (key : ℕ) → IsWithin dimension (size_at new.sizes.items key)
  pub kept : (key : ℕ) → key < first → size_at new.sizes.items key ≡ size_at old.sizes.items key
  pub edits : new.edits ≡ suc old.edits
  pub stamps : new.stamps.items ≡ old.stamps.items ++ replicate (count - first) new.edits

-- what refuses an order of the cells; want of memory may always
abbrev pub RefusesOrder : List CellState → TreeFault → Type 0
RefusesOrder cells (Cycle cell) = IsFirstBelowItself cells cell
RefusesOrder cells Memory = Unit {0}
RefusesOrder cells _ = ⊥

-- what refuses sizes of the cells; want of memory may always
abbrev pub RefusesSizes : List CellState → TreeFault → Type 0
RefusesSizes cells (Passed dimension) = PassesWithAll dimension cells
RefusesSizes cells Memory = Unit {0}
RefusesSizes cells _ = ⊥

-- The cells may be worked out: uses are few and lawful, the order is right, and so are the sizes of the cells that were there.
pub record MayBeSized (cells : List CellState) (first : ℕ) (order : List ℕ) (sizes : List Size) : Type 0 where
  pub lawful : AreLawfulCells cells
  pub sorted : IsNewOrder cells first order
  pub count : length sizes ≡ first
  pub old : (dimension : Dimension) → AreSettled dimension cells first order 0 sizes

-- The k-th use of the cell is of this child.
pub record ChildIs (cells : List CellState) (cell k child : ℕ) : Type 0 where
  pub entry : List ℕ × UseBody
  pub stands : slice_get (cell_at cells cell).uses k ≡ Some entry
  pub is : entry.1.child.0 ≡ child
