-- `save c`: stores c.mag.
use Rattle.std.specs.Prelude.{◌≡◌, ℕ, List, [], ◌∷◌, ◌++◌, codes}
use Rattle.session_model.specs.declared.answer.Store.{Store}
use Rattle.session_model.specs.declared.report.ReportLine.{ReportLine}
use Rattle.line_answers.specs.LineEffects.{reply}
use Rattle.cell_library.specs.Views.{LibraryView}
use Rattle.library_answers.specs.MagText.CellTexts.{IsCellText}
use Rattle.library_answers.specs.CellLoading.CellFiles.{cell_file}

-- `save c`
abbrev pub saved_text : List ℕ → List ℕ
saved_text cell = codes "save " ++ cell

-- the file of the cell with this text
abbrev pub cell_store : List ℕ → List ℕ → Store
cell_store cell text = record { name = cell_file cell; bytes = text }

-- The file of the cell is stored, and that is told.
abbrev pub SavesCell : LibraryView → ℕ → List ℕ → List ReportLine → List Store → Type 0
SavesCell library cell name lines stores =
    (text : List ℕ) × IsCellText library cell text × (lines ≡ reply (saved_text name) ∷ []) × (stores ≡ cell_store name text ∷ [])
