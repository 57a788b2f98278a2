-- What contracts see of a tree of cells, and what holds of its parts.
use Rattle.std.specs.Prelude.{List, length}
use Rattle.cell_tree.specs.declared.cells.TreeCell.{TreeCell}
use Rattle.cell_tree.specs.declared.size_books.SizeBook.{SizeBook}
use Rattle.cell_tree.specs.Cells.{states, KnowUsers}
use Rattle.cell_tree.specs.Trees.{Tree, IsLawfulTree}
use Rattle.cell_tree.specs.Books.{IsReady}

-- the tree of these cells with this book
abbrev pub tree_of : List TreeCell → SizeBook → Tree
tree_of cells book = record { cells = states cells; sizes = book.sizes.items; stamps = book.stamps.items; edits = book.edits }

-- The tree is lawful, each cell knows its users, and the book is ready for a trial.
pub record IsWhole (cells : List TreeCell) (book : SizeBook) : Type 0 where
  pub lawful : IsLawfulTree (tree_of cells book)
  pub users : KnowUsers cells
  pub ready : IsReady book (length cells)
