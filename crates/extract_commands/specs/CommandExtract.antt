-- `extract c`: makes a new record of each dirty cell at and below c, in library order, and stores its file.
use Rattle.std.specs.Prelude.{◌≡◌, ◌⊎◌, ℕ, pos, List, [], ◌∷◌, ◌++◌, Some, codes}
use Rattle.text_scan.specs.Decimal.{decimal}
use Rattle.session_model.specs.Effects.{Effect}
use Rattle.line_answers.specs.LineEffects.{reply}
use Rattle.workspace.specs.declared.extractions.Extraction.{Extraction}
use Rattle.workspace.specs.Extractions.{IsExtraction, OnCell, RefusesUnclean, with_clean}
use Rattle.workspace.specs.States.{State, Workspace}

-- `extract CELL: K cells`
abbrev pub extracted_text : List ℕ → ℕ → List ℕ
extracted_text cell count = codes "extract " ++ cell ++ codes ": " ++ decimal (pos count) ++ codes " cells"

-- the cell of this name is extracted
pub record ExtractsCell (name : List ℕ) (work : Workspace) (cell : ℕ) (effect : Effect State) : Type 0 where
  pub extraction : Extraction
  pub is_extraction : IsExtraction work cell extraction
  pub is : effect ≡ record {
    state = Some (with_clean work is_extraction.order);
    lines = extraction.lines ++ reply (extracted_text name extraction.count) ∷ [];
    stores = extraction.stores;
    fetched = [];
  }

-- It is extracted, or refused since a cell at or below it is not clean.
abbrev pub ExtractMeans : ℕ → State → List ℕ → Effect State → Type 0
ExtractMeans number state name effect =
    OnCell number state name (λ work cell after. ExtractsCell name work cell after ⊎ RefusesUnclean number work [] cell after) effect
