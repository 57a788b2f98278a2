-- What the commands have in common that are about a cell, and what its extraction does.
use Rattle.std.specs.Prelude.{◌≡◌, ◌==◌, ◌&&◌, not, ℕ, Some, List, [], ◌∷◌, ◌++◌, length, map, filter, MatchOption, codes}
use Rattle.std.specs.List.{list_any}
use Rattle.geo_core.specs.declared.squares.Rect.{Rect}
use Rattle.use_orders.specs.LibraryOrder.{IsLibraryOrder}
use Rattle.session_model.specs.declared.answer.Store.{Store}
use Rattle.session_model.specs.declared.report.ReportLine.{ReportLine}
use Rattle.session_model.specs.Effects.{Effect}
use Rattle.ext_model.specs.declared.arrays.ArrayExt.{ArrayExt}
use Rattle.ext_text.specs.WrittenTexts.{ext_text}
use Rattle.ext_cache.specs.Names.Attachments.{AreUnattached}
use Rattle.ext_cache.specs.CellLibrary.Additions.{children_in}
use Rattle.ext_cache.specs.CellLibrary.Views.{LibraryView, cell_named, view_at}
use Rattle.library_answers.specs.HierMerge.UncleanCells.{IsCleanCell, IsUncleanBelow}
use Rattle.ext_cache.specs.LibraryTrees.CellRecords.{IsRecordOf}
use Rattle.ext_loading.specs.ExtFiles.{ext_file}
use Rattle.line_answers.specs.declared.refusals.Refusal.{Refusal}
use Rattle.line_answers.specs.LineEffects.{refused, reply}
use Rattle.line_answers.specs.Refusals.{no_cell, no_tech, of_inside, refusal_line}
use Rattle.library_answers.specs.Offending.{offending_line}
use Rattle.workspace.specs.declared.extractions.Extraction.{Extraction}
use Rattle.workspace.specs.States.{State, Workspace}

-- A command on the cell of this name. It needs a technology and the cell.
abbrev pub OnCell : ℕ → State → List ℕ → (Workspace → ℕ → Effect State → Type 0) → Effect State → Type 0
OnCell number state name Means effect =
    MatchOption state
    (effect ≡ refused number state no_tech [])
    (λ work. MatchOption (cell_named work.editing.library name)
    (effect ≡ refused number state (no_cell name) [])
    (λ cell. Means work cell effect))

-- `unattached CELL TEXT`
abbrev pub unattached_line : List ℕ → List ℕ → ReportLine
unattached_line cell text = reply (codes "unattached " ++ cell ++ codes " " ++ text)

-- the circuit file of the cell of this name with the text of its record
abbrev pub ext_store : List ℕ → ArrayExt → Store
ext_store cell ext = record { name = ext_file cell; bytes = ext_text ext }

-- A record of the cell is made and stored, and these of its labels name nothing.
pub record MakesRecord (library : LibraryView) (cell : ℕ) (lines : List ReportLine) (store : Store) : Type 0 where
  pub ext : ArrayExt
  pub is_record : IsRecordOf library cell ext
  pub texts : List (List ℕ)
  pub are_unattached : AreUnattached library.tech (view_at library cell).own (view_at library cell).labels texts
  pub lines_are : lines ≡ map (unattached_line (view_at library cell).name) texts
  pub store_is : store ≡ ext_store (view_at library cell).name ext

-- Records of these cells are made, one after another.
abbrev pub MakesRecords : LibraryView → List ℕ → List ReportLine → List Store → Type 0
MakesRecords library [] lines stores = (lines ≡ []) × (stores ≡ [])
MakesRecords library (cell ∷ cells) lines stores =
    (first : List ReportLine) × (store : Store) × (rest : List ReportLine) × (others : List Store)
    × MakesRecord library cell first store × MakesRecords library cells rest others
    × (lines ≡ first ++ rest) × (stores ≡ store ∷ others)

-- The extraction of a cell, which is clean with all below it: a record is made of each dirty cell at and below it, in library order.
pub record IsExtraction (work : Workspace) (cell : ℕ) (extraction : Extraction) : Type 0 where
  pub clean : IsCleanCell work.editing.library cell
  pub order : List ℕ
  pub is_order : IsLibraryOrder (children_in work.editing.library) cell order
  pub makes : MakesRecords work.editing.library (filter work.dirty order) extraction.lines extraction.stores
  pub count : extraction.count ≡ length (filter work.dirty order)

-- after the extraction of a cell none of these cells, those at and below it, is dirty
abbrev pub with_clean : Workspace → List ℕ → Workspace
with_clean work order = record work { dirty = λ other. not (list_any (λ cell. cell == other) order) && work.dirty other }

-- a cell is not clean
abbrev pub unclean_refusal : List ℕ → Refusal
unclean_refusal cell = of_inside (codes "E19 unclean " ++ cell)

-- The line is refused since a cell at or below the cell is not clean, and the squares are told that offend of the first such cell, in library
-- order.
pub record RefusesUnclean (number : ℕ) (work : Workspace) (fetched : List (List ℕ)) (root : ℕ) (effect : Effect State) : Type 0 where
  pub cell : ℕ
  pub squares : List (ℕ × Rect)
  pub unclean : IsUncleanBelow work.editing.library root cell squares
  pub is : effect ≡ record {
    state = Some work;
    lines = refusal_line number (unclean_refusal (view_at work.editing.library cell).name)
        ∷ map (offending_line work.editing.library.tech (view_at work.editing.library cell).name) squares;
    stores = [];
    fetched = fetched;
  }
