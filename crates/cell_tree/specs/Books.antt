-- What is kept of all cells beside the cells: their sizes and stamps, and what a trial works in.
use Rattle.std.specs.Prelude.{◌≡◌, ◌≢◌, ◌↔◌, ℕ, suc, ◌-◌, ◌<◌, ◌≤◌, false, List, [], length, slice_index_or, vec_capacity}
use Rattle.cell_tree.specs.declared.cells.TreeCell.{TreeCell}
use Rattle.cell_tree.specs.declared.size_books.SizeBook.{SizeBook}
use Rattle.cell_tree.specs.declared.sizes.Size.{Size}
use Rattle.cell_tree.specs.Cells.{states, IsAbove, KnowUsers}
use Rattle.cell_tree.specs.Above.{at, IsSeen, StandsIn, ComesAfterUsers}
use Rattle.cell_tree.specs.Trials.{AreLawfulCells, AreLawfulSizes, IsTried}
use Rattle.cell_tree.specs.Trees.{RaisesStamps}

-- The order has the cell and all above it and nothing else, each after all that use it, and the cell last.
pub record ListsAbove (cells : List TreeCell) (cell : ℕ) (order : List ℕ) : Type 0 where
  pub sorted : ComesAfterUsers cells order
  pub above : (key : ℕ) → StandsIn order key ↔ IsAbove (states cells) cell key
  pub within : (place : ℕ) → place < length order → at order place < length cells
  pub some : 0 < length order
  pub last : at order (length order - 1) ≡ cell
  pub once : (p q : ℕ) → p < q → q < length order → at order p ≢ at order q

-- The book is ready for a trial among so many cells: the second list of sizes is the first, nothing is seen, and the order is empty and
-- has room for all.
pub record IsReady (book : SizeBook) (count : ℕ) : Type 0 where
  pub sizes : length book.sizes.items ≡ count
  pub next : book.next.items ≡ book.sizes.items
  pub stamps : length book.stamps.items ≡ count
  pub seen : length book.seen.items ≡ count
  pub unseen : (key : ℕ) → slice_index_or book.seen.items key false ≡ false
  pub order : book.order.items ≡ []
  pub room : count ≤ vec_capacity book.order

-- The book has room for one more cell.
pub record HasRoom (book : SizeBook) : Type 0 where
  pub sizes : length book.sizes.items < vec_capacity book.sizes
  pub next : length book.next.items < vec_capacity book.next
  pub stamps : length book.stamps.items < vec_capacity book.stamps
  pub seen : length book.seen.items < vec_capacity book.seen
  pub order : length book.sizes.items < vec_capacity book.order

-- Whatever is seen stands in the order, all of the order are cells, and there is one of everything for each cell.
pub record AreListed (book : SizeBook) : Type 0 where
  pub next : length book.next.items ≡ length book.sizes.items
  pub stamps : length book.stamps.items ≡ length book.sizes.items
  pub seen : length book.seen.items ≡ length book.sizes.items
  pub room : length book.sizes.items ≤ vec_capacity book.order
  pub marked : (key : ℕ) → IsSeen book.seen.items key → StandsIn book.order.items key
  pub within : (place : ℕ) → place < length book.order.items → at book.order.items place < length book.sizes.items

-- The book says the same of the cells.
pub record SaysTheSame (old new : SizeBook) : Type 0 where
  pub sizes : new.sizes.items ≡ old.sizes.items
  pub stamps : new.stamps.items ≡ old.stamps.items
  pub edits : new.edits ≡ old.edits

-- The book was ready, and what was found stands in its order and is seen now.
pub record IsFound (old new : SizeBook) : Type 0 where
  pub same : SaysTheSame old new
  pub next : new.next.items ≡ old.next.items
  pub listed : AreListed new
  pub seen : (key : ℕ) → StandsIn new.order.items key → IsSeen new.seen.items key

-- Cells that a trial may go over: they and their sizes are lawful, and each knows its users.
pub record AreLawful (cells : List TreeCell) (sizes : List Size) : Type 0 where
  pub uses : AreLawfulCells (states cells)
  pub measured : AreLawfulSizes (states cells) sizes
  pub users : KnowUsers cells

-- The book has the sizes of cells of which one has this size, and the stamps of one more edit.
pub record IsBooked (cells : List TreeCell) (old new : SizeBook) (cell : ℕ) (size : Size) : Type 0 where
  pub sizes : IsTried (states cells) old.sizes.items new.sizes.items cell size
  pub edits : new.edits ≡ suc old.edits
  pub stamps : RaisesStamps (states cells) cell old.stamps.items new.stamps.items new.edits
