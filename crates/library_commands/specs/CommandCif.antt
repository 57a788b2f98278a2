-- `cif c`: it stores the CIF text of c, and leaves the session as it is.
use Rattle.std.specs.Prelude.{ℕ, List, Some}
use Rattle.session_model.specs.Effects.{Effect}
use Rattle.line_answers.specs.LineEffects.{LeavesState}
use Rattle.cif_commands.specs.CommandCif.{CifMeans}
use Rattle.workspace.specs.Extractions.{OnCell}
use Rattle.workspace.specs.States.{State, Workspace}

-- The text of the cell, which has this name, is stored, and nothing changes.
abbrev pub WritesIn : ℕ → List ℕ → Workspace → ℕ → Effect State → Type 0
WritesIn number name work cell effect = LeavesState (Some work) (CifMeans number work.editing.library cell name) effect

-- It needs a technology and the cell.
abbrev pub WriteMeans : ℕ → State → List ℕ → Effect State → Type 0
WriteMeans number state name effect = OnCell number state name (WritesIn number name) effect
