-- Cells of a library that are not clean, and the squares that offend.
use Rattle.std.specs.Prelude.{◌≡◌, ℕ, List, ◌∷◌, ◌++◌, length, All}
use Rattle.geo_core.specs.declared.squares.Rect.{Rect}
use Rattle.cell_library.specs.UseOrders.LibraryOrder.{IsLibraryOrder}
use Rattle.cell_library.specs.LayoutModel.FlatSets.{parts_in}
use Rattle.meeting_laws.specs.Offences.Offences.{OffendsOn}
use Rattle.meeting_laws.specs.HierarchyModel.CleanCells.{IsClean}
use Rattle.cell_library.specs.Additions.{children_in}
use Rattle.cell_library.specs.LayoutTrees.{tree_at}
use Rattle.cell_library.specs.Views.{LibraryView}
use Rattle.hier_merge.specs.StripLists.{AreStripsByPlane}

-- The cell and all below it are clean.
abbrev pub IsCleanCell : LibraryView → ℕ → Type 0
IsCleanCell library cell = IsClean library.tech (tree_at library cell)

-- These are the strips of the squares of the cell that offend, by plane.
abbrev pub AreOffendingOf : LibraryView → ℕ → List (ℕ × Rect) → Type 0
AreOffendingOf library cell squares =
    AreStripsByPlane (OffendsOn library.tech (parts_in library.tech (tree_at library cell))) (length library.tech.planes) squares

-- In this order of cells the cell is not clean, and all before it are.
pub record IsFirstUnclean (library : LibraryView) (order : List ℕ) (cell : ℕ) : Type 0 where
  pub before : List ℕ
  pub after : List ℕ
  pub stands : order ≡ before ++ cell ∷ after
  pub clean : All (IsCleanCell library) before
  pub unclean : IsCleanCell library cell → ⊥

-- The cell is the first at or below the root that is not clean, in library order, and these are the squares of it that offend, by plane.
pub record IsUncleanBelow (library : LibraryView) (root cell : ℕ) (squares : List (ℕ × Rect)) : Type 0 where
  pub order : List ℕ
  pub is_order : IsLibraryOrder (children_in library) root order
  pub first : IsFirstUnclean library order cell
  pub are_squares : AreOffendingOf library cell squares
