-- What cells that are not clean are held to.
use Rattle.std.specs.Prelude.{◌≡◌, ◌<◌, ℕ, List, length}
use Rattle.geo_core.specs.declared.squares.Rect.{Rect}
use Rattle.edit_script.specs.CellLibrary.Libraries.{IsLawfulLibrary, LibraryParts, seen}
use Rattle.edit_script.specs.CellLibrary.Views.{LibraryView}
use Rattle.hier_merge.specs.UncleanCells.{AreOffendingOf, IsCleanCell, IsFirstUnclean, IsUncleanBelow}

-- the squares of a cell that offend have one list of strips
abbrev pub OffendingSquaresAreUnique : Type 0
OffendingSquaresAreUnique =
    (library : LibraryView) (cell : ℕ) (squares others : List (ℕ × Rect)) → AreOffendingOf library cell squares
    → AreOffendingOf library cell others → squares ≡ others

-- one cell of an order is the first that is not clean
abbrev pub FirstUncleanCellsAreUnique : Type 0
FirstUncleanCellsAreUnique =
    (library : LibraryView) (order : List ℕ) (cell other : ℕ) → IsFirstUnclean library order cell → IsFirstUnclean library order other → cell ≡ other

-- so one cell at or below a root is told, with its squares
abbrev pub UncleanCellsBelowAreUnique : Type 0
UncleanCellsBelowAreUnique =
    (library : LibraryView) (root cell other : ℕ) (squares others : List (ℕ × Rect)) → IsUncleanBelow library root cell squares
    → IsUncleanBelow library root other others → (cell ≡ other) × (squares ≡ others)

-- A clean cell has no cell below it that is not clean. The tree of a cell is unfolded as far as a chain of uses may have cells, so this
-- asks for a library that keeps its limits.
abbrev pub CleanCellsHaveNoneBelow : Type 0
CleanCellsHaveNoneBelow =
    (library : LibraryParts) (root cell : ℕ) (squares : List (ℕ × Rect)) → IsLawfulLibrary library → root < length library.contents
    → IsCleanCell (seen library) root → ¬ (IsUncleanBelow (seen library) root cell squares)
