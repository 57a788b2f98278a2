-- What hulls and texts of cells are held to.
use Rattle.std.specs.Prelude.{◌≡◌, ◌<◌, ℕ, List, length, Option}
use Rattle.use_orders.specs.Uses.{AreCells}
use Rattle.geo_core.specs.declared.squares.Rect.{Rect}
use Rattle.edit_script.specs.CellLibrary.Additions.{children_in}
use Rattle.edit_script.specs.CellLibrary.Limits.{HullIs}
use Rattle.edit_script.specs.CellLibrary.Views.{LibraryView}
use Rattle.cell_loading.specs.MagText.CellTexts.{IsCellText}

-- A cell of a library has one hull. What is no cell of the library has no size of its own, so each use is to lead to a cell, as those of
-- a lawful library do.
abbrev pub HullsAreUnique : Type 0
HullsAreUnique =
    (view : LibraryView) (cell : ℕ) (hull other : Option Rect) → AreCells (children_in view) → cell < length view.cells → HullIs view cell hull
    → HullIs view cell other → hull ≡ other

-- and one text, which tells the hulls of those that it uses
abbrev pub CellTextsAreUnique : Type 0
CellTextsAreUnique =
    (view : LibraryView) (cell : ℕ) (text other : List ℕ) → AreCells (children_in view) → IsCellText view cell text
    → IsCellText view cell other → text ≡ other
