-- What the extraction of a cell is held to.
use Rattle.std.specs.Prelude.{◌≡◌, ◌<◌, ℕ, List, length}
use Rattle.session_model.specs.Effects.{Effect}
use Rattle.workspace.specs.declared.extractions.Extraction.{Extraction}
use Rattle.workspace.specs.Extractions.{IsExtraction, RefusesUnclean}
use Rattle.workspace.specs.States.{State, Workspace}
use Rattle.layout_gen.specs.CellLibrary.LawfulViews.{IsLawfulView, IsSoundView}

-- a cell of a lawful library has one extraction, and the cells at and below it have one order
abbrev pub ExtractionsAreUnique : Type 0
ExtractionsAreUnique =
    (work : Workspace) (cell : ℕ) (extraction other : Extraction) → IsSoundView work.editing.library → cell < length work.editing.library.cells
    → (is : IsExtraction work cell extraction) → (also : IsExtraction work cell other) → (extraction ≡ other) × (is.order ≡ also.order)

-- or it is refused with one effect
abbrev pub UncleanRefusalsAreUnique : Type 0
UncleanRefusalsAreUnique =
    (number : ℕ) (work : Workspace) (fetched : List (List ℕ)) (cell : ℕ) (effect other : Effect State)
    → RefusesUnclean number work fetched cell effect → RefusesUnclean number work fetched cell other → effect ≡ other

-- and not both
abbrev pub ExtractedCellsAreNotRefused : Type 0
ExtractedCellsAreNotRefused =
    (number : ℕ) (work : Workspace) (fetched : List (List ℕ)) (cell : ℕ) (extraction : Extraction) (effect : Effect State)
    → IsLawfulView work.editing.library → cell < length work.editing.library.cells → IsExtraction work cell extraction
    → ¬ (RefusesUnclean number work fetched cell effect)
