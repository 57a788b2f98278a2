-- `cif c`: stores c.cif.
use Rattle.std.specs.Prelude.{◌≡◌, ◌<◌, ◌≤◌, ◌⊎◌, ℕ, pos, List, [], ◌∷◌, ◌++◌, length, codes}
use Rattle.text_scan.specs.Decimal.{decimal}
use Rattle.session_model.specs.declared.answer.Store.{Store}
use Rattle.cell_library.specs.Views.{LibraryView}
use Rattle.cif_writing.specs.declared.limits.TheConstants.{LONGEST_TEXT}
use Rattle.cif_writing.specs.Symbols.{IsCifText}
use Rattle.line_answers.specs.LineEffects.{FreeEffect, refused, reply}
use Rattle.line_answers.specs.Refusals.{too_many}

-- the file of the CIF text of this name
abbrev pub cif_file : List ℕ → List ℕ
cif_file name = name ++ codes ".cif"

-- `cif CELL: K symbols`
abbrev pub written_text : List ℕ → ℕ → List ℕ
written_text cell symbols = codes "cif " ++ cell ++ codes ": " ++ decimal (pos symbols) ++ codes " symbols"

-- the file of the cell with this text
abbrev pub cif_store : List ℕ → List ℕ → Store
cif_store cell text = record { name = cif_file cell; bytes = text }

-- The text of the cell, which has this name, is stored, and it is told how many symbols it has: one for each cell at or below it.
pub record WritesCif (library : LibraryView) (cell : ℕ) (name : List ℕ) (effect : FreeEffect) : Type 0 where
  pub text : List ℕ
  pub is_text : IsCifText library cell text
  pub fits : length text ≤ LONGEST_TEXT
  pub is : effect ≡ record {
    state = tt;
    lines = reply (written_text name (length is_text.order)) ∷ [];
    stores = cif_store name text ∷ [];
    fetched = [];
  }

-- The text of the cell would be too long.
pub record RefusesCif (number : ℕ) (library : LibraryView) (cell : ℕ) (effect : FreeEffect) : Type 0 where
  pub long : (text : List ℕ) → IsCifText library cell text → LONGEST_TEXT < length text
  pub is : effect ≡ refused number tt (too_many (codes "Text")) []

abbrev pub CifMeans : ℕ → LibraryView → ℕ → List ℕ → FreeEffect → Type 0
CifMeans number library cell name effect = WritesCif library cell name effect ⊎ RefusesCif number library cell effect
