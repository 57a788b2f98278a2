-- The laws of the cells of a library as trees with names and labels, as statements.
use Rattle.std.specs.Prelude.{◌≡◌, ◌<◌, ◌≤◌, ℕ, ℤ, List, length}
use Rattle.ext_model.specs.GeoCore.declared.grids.Grid.{Grid}
use Rattle.ext_model.specs.GeoCore.declared.squares.Rect.{Rect}
use Rattle.cell_library.specs.TechModel.declared.raw.Label.{Label}
use Rattle.cell_library.specs.CellTree.declared.limits.TheConstants.{MOST_DEPTH}
use Rattle.cell_library.specs.CellTree.Trees.{stamp_at}
use Rattle.tree_names.specs.HierarchyModel.CleanCells.{IsClean}
use Rattle.tree_names.specs.CircuitModel.declared.limits.TheConstants.{LONGEST_CHAIN}
use Rattle.cell_library.specs.Edits.{erased, labelled, moved, painted, placed, unlabelled, with_grid, with_new_cell, without_use}
use Rattle.cell_library.specs.LayoutTrees.{tree_at}
use Rattle.cell_library.specs.Libraries.{LibraryParts, IsNextEdit, seen}
use Rattle.cell_library.specs.Views.{CellView, LibraryView, view_at, with_cell_changed}
use Rattle.tree_names.specs.TreeRecords.NamedTrees.{layouts_of}
use Rattle.tree_names.specs.TreeRecords.NamedTrees.NamedTree.{named_tree}
use Rattle.tree_names.specs.CleanTrees.{HasElementNames, IsCleanTree, depth_of}
use Rattle.library_trees.specs.NamedCells.{IsAtOrBelow, named_elements_from, named_tree_at, own_body_of}

-- without names and labels, the named tree of a cell is its tree of layouts
abbrev pub NamedTreesHaveTheLayouts : Type 0
NamedTreesHaveTheLayouts = (view : LibraryView) (cell : ℕ) → layouts_of (named_tree_at view cell) ≡ tree_at view cell

-- the named tree of a cell of the library has the named trees of its children
abbrev pub NamedTreesUnfold : LibraryParts → Type 0
NamedTreesUnfold library =
    (cell : ℕ) → cell < length library.contents
    → named_tree_at (seen library) cell
    ≡ named_tree (own_body_of (seen library) cell) (named_elements_from (named_tree_at (seen library)) (view_at (seen library) cell).uses)

-- the names of the elements of each cell at and below a cell of the library have no slash, and differ
abbrev pub ElementNamesTellElements : LibraryParts → Type 0
ElementNamesTellElements library = (cell : ℕ) → HasElementNames (named_tree_at (seen library) cell)

-- The chains of elements of a cell of the library are no longer than a library allows, and no longer than records of cells are read.
pub record AreChainsShort (library : LibraryParts) : Type 0 where
  pub depth : (cell : ℕ) → cell < length library.contents → depth_of (named_tree_at (seen library) cell) ≤ MOST_DEPTH
  pub chain : (cell : ℕ) → cell < length library.contents → depth_of (named_tree_at (seen library) cell) ≤ LONGEST_CHAIN

-- two views that show the same of a cell and of each below it have one named tree of the cell
abbrev pub NamedTreesAreOfTheCellsBelow : Type 0
NamedTreesAreOfTheCellsBelow =
    (view other : LibraryView) (cell : ℕ) → ((below : ℕ) → IsAtOrBelow view cell below → view_at view below ≡ view_at other below)
    → named_tree_at view cell ≡ named_tree_at other cell

-- The cell has the same named tree in both.
abbrev pub HaveOneTree : LibraryView → LibraryView → ℕ → Type 0
HaveOneTree view other cell = named_tree_at view cell ≡ named_tree_at other cell

-- Whichever edit is made of the one cell, the named tree of the other stays the same.
pub record EditsKeepTree (view : LibraryView) (cell other : ℕ) : Type 0 where
  pub paint : (layer : ℕ) (area : Rect) → HaveOneTree (painted view cell layer area) view other
  pub erase : (layer : ℕ) (area : Rect) → HaveOneTree (erased view cell layer area) view other
  pub label : (added : Label) → HaveOneTree (labelled view cell added) view other
  pub unlabel : (text : List ℕ) → HaveOneTree (unlabelled view cell text) view other
  pub place : (child : ℕ) (id : List ℕ) (six : List ℤ) → HaveOneTree (placed view cell child id six) view other
  pub array : (id : List ℕ) (grid : Grid) → HaveOneTree (with_grid view cell id grid) view other
  pub move : (id : List ℕ) (dx dy : ℤ) → HaveOneTree (moved view cell id dx dy) view other
  pub delete : (id : List ℕ) → HaveOneTree (without_use view cell id) view other

-- each edit of a cell keeps the named trees of all cells that it is not, and does not stand below
abbrev pub EditsKeepOtherTrees : Type 0
EditsKeepOtherTrees = (view : LibraryView) (cell other : ℕ) → (IsAtOrBelow view other cell → ⊥) → EditsKeepTree view cell other

-- a new cell keeps the named trees of all cells of the library
abbrev pub NewCellsKeepTrees : LibraryParts → Type 0
NewCellsKeepTrees library =
    (name : List ℕ) (cell : ℕ) → cell < length library.contents → HaveOneTree (with_new_cell (seen library) name) (seen library) cell

-- an edit of a cell keeps the named trees of all cells whose stamps it keeps
abbrev pub StampsTellChangedTrees : LibraryParts → Type 0
StampsTellChangedTrees library =
    (new : LibraryParts) (cell : ℕ) (change : CellView → CellView) → IsNextEdit library new cell
    → seen new ≡ with_cell_changed (seen library) cell change
    → (other : ℕ) → stamp_at new.tree.stamps other ≡ stamp_at library.tree.stamps other → HaveOneTree (seen new) (seen library) other

-- where the cell of the library is clean, its named tree is
abbrev pub CleanCellHasCleanTree : LibraryParts → ℕ → Type 0
CleanCellHasCleanTree library cell =
    IsClean library.tech (tree_at (seen library) cell) → IsCleanTree library.tech (named_tree_at (seen library) cell)
