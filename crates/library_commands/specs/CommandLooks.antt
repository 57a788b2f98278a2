-- `nodes c`, `save c` and `squares c`: they tell something of c, and leave the session as it is.
use Rattle.std.specs.Prelude.{◌≡◌, ℕ, List, [], Some}
use Rattle.session_model.specs.declared.answer.Store.{Store}
use Rattle.session_model.specs.declared.report.ReportLine.{ReportLine}
use Rattle.session_model.specs.Effects.{Effect}
use Rattle.look_commands.specs.declared.looks.Look.{Look}
use Rattle.look_commands.specs.Looks.{Tells}
use Rattle.workspace.specs.Extractions.{OnCell}
use Rattle.workspace.specs.States.{State, Workspace}

-- This is told of the cell.
pub record LooksAt (look : Look) (name : List ℕ) (work : Workspace) (cell : ℕ) (effect : Effect State) : Type 0 where
  pub lines : List ReportLine
  pub stores : List Store
  pub tells : Tells look work.editing.library cell name lines stores
  pub is : effect ≡ record { state = Some work; lines = lines; stores = stores; fetched = [] }

-- It needs a technology and the cell.
abbrev pub LookMeans : Look → ℕ → State → List ℕ → Effect State → Type 0
LookMeans look number state name effect = OnCell number state name (LooksAt look name) effect
