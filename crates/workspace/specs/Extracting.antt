-- What the program tells of an extraction, and what it keeps then.
use Rattle.std.specs.Prelude.{◌≡◌, ℕ, false, Option, Some, List, [], map, option_map}
use Rattle.use_orders.specs.Uses.{IsAtOrBelow}
use Rattle.session_model.specs.declared.answer.Store.{Store}
use Rattle.session_model.specs.declared.report.ReportLine.{ReportLine}
use Rattle.ext_model.specs.declared.arrays.ArrayExt.{ArrayExt}
use Rattle.ext_model.specs.LawfulArrays.{IsLawfulArrayExt}
use Rattle.ext_cache.specs.CellLibrary.Additions.{children_in}
use Rattle.ext_cache.specs.CellLibrary.Libraries.{LibraryParts, seen}
use Rattle.ext_cache.specs.CellLibrary.Views.{LibraryView, view_at}
use Rattle.ext_cache.specs.declared.extraction.Extracted.{Extracted}
use Rattle.ext_cache.specs.Caches.{Records, is_dirty, record_in}
use Rattle.workspace.specs.declared.extractions.Extracting.{Extracting}
use Rattle.workspace.specs.declared.extractions.Extracting.TheVariants.{Done, Refused}
use Rattle.workspace.specs.Extractions.{IsExtraction, RefusesUnclean, ext_store, unattached_line, with_clean}
use Rattle.workspace.specs.States.{Workspace}

-- the lines of the labels that name nothing, for a cell of which a record was made
abbrev pub told_lines : LibraryView → Extracted → List ReportLine
told_lines library told = map (unattached_line (view_at library told.cell.0).name) told.unattached

-- A lawful record is kept of the cell.
pub record HasLawfulRecord (records : Records) (told : Extracted) : Type 0 where
  pub ext : ArrayExt
  pub is_kept : record_in records told.cell.0 ≡ Some ext
  pub lawful : IsLawfulArrayExt ext

-- the circuit file of the cell, with the text of the record that is kept of it
abbrev pub kept_store : LibraryView → Records → Extracted → Option Store
kept_store library records told = option_map (ext_store (view_at library told.cell.0).name) (record_in records told.cell.0)

-- The cell was extracted, and this is what the extraction comes to; or the lines refuse it, and nothing changed.
abbrev pub IsExtracted : ℕ → Workspace → Workspace → ℕ → Extracting → Type 0
IsExtracted number work after cell (Done extraction) = (is : IsExtraction work cell extraction) × (after ≡ with_clean work is.order)
IsExtracted number work after cell (Refused lines) =
    (fetched : List (List ℕ))
    → RefusesUnclean number work fetched cell (record { state = Some after; lines = lines; stores = []; fetched = fetched })

-- No cell at or below the cell is dirty.
abbrev pub IsFreshBelow : LibraryParts → Records → ℕ → Type 0
IsFreshBelow library records cell =
    (below : ℕ) → IsAtOrBelow (children_in (seen library)) cell below → is_dirty library records below ≡ false
