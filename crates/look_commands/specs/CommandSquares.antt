-- `squares c`: tells that c is clean, or the squares that offend of the first cell at or below it that is not.
use Rattle.std.specs.Prelude.{◌≡◌, ◌⊎◌, ℕ, List, [], ◌∷◌, ◌++◌, map, codes}
use Rattle.geo_core.specs.declared.squares.Rect.{Rect}
use Rattle.cell_library.specs.Views.{LibraryView, view_at}
use Rattle.library_answers.specs.HierMerge.UncleanCells.{IsCleanCell, IsUncleanBelow}
use Rattle.session_model.specs.declared.report.ReportLine.{ReportLine}
use Rattle.line_answers.specs.LineEffects.{reply}
use Rattle.library_answers.specs.Offending.{offending_line}

-- `clean CELL`
abbrev pub clean_text : List ℕ → List ℕ
clean_text cell = codes "clean " ++ cell

-- The lines tell the squares of the first cell of the library order below the root that is not clean.
pub record TellsUnclean (library : LibraryView) (root : ℕ) (lines : List ReportLine) : Type 0 where
  pub cell : ℕ
  pub squares : List (ℕ × Rect)
  pub unclean : IsUncleanBelow library root cell squares
  pub are : lines ≡ map (offending_line library.tech (view_at library cell).name) squares

-- The lines tell that the cell of this name is clean, or which squares offend.
abbrev pub TellsSquares : LibraryView → ℕ → List ℕ → List ReportLine → Type 0
TellsSquares library cell name lines = (IsCleanCell library cell × (lines ≡ reply (clean_text name) ∷ [])) ⊎ TellsUnclean library cell lines
