-- `drc c f`: it tells where c violates design rules, and leaves the session as it is.
use Rattle.std.specs.Prelude.{ℕ, List, Some}
use Rattle.outside_io.specs.Files.{Files}
use Rattle.session_model.specs.Effects.{Effect}
use Rattle.line_answers.specs.LineEffects.{LeavesState}
use Rattle.drc_commands.specs.CommandDrc.{DrcMeans}
use Rattle.workspace.specs.Extractions.{OnCell}
use Rattle.workspace.specs.States.{State, Workspace}

-- The cell, which has this name, is checked by the rules of a file, and nothing changes.
abbrev pub ChecksIn : ℕ → Files → List ℕ → List ℕ → Workspace → ℕ → Effect State → Type 0
ChecksIn number files name file work cell effect = LeavesState (Some work) (DrcMeans number files work.editing.library cell name file) effect

-- It needs a technology and the cell.
abbrev pub CheckMeans : ℕ → State → Files → List ℕ → List ℕ → Effect State → Type 0
CheckMeans number state files name file effect = OnCell number state name (ChecksIn number files name file) effect
