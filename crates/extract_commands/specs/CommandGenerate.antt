-- `generate n`: makes a stack of n rows of n tiles, extracts it, and runs its vectors on the network of its circuit.
use Rattle.std.specs.Prelude.{◌≡◌, ◌⊎◌, ◌+◌, ℕ, suc, ℤ, Bool, true, false, if◌then◌else◌, List, [], length, option_map, Some, None, MatchOption}
use Rattle.std.specs.List.{list_any}
use Rattle.std.specs.Int.RustNames.{unsigned_abs}
use Rattle.session_model.specs.declared.report.LineKind.{LineKind}
use Rattle.session_model.specs.declared.report.LineKind.TheVariants.{Refusal}
use Rattle.session_model.specs.declared.report.ReportLine.{ReportLine}
use Rattle.session_model.specs.Effects.{Effect}
use Rattle.layout_gen.specs.CellLibrary.Views.{LibraryView}
use Rattle.layout_gen.specs.declared.faults.GenerateFault.{GenerateFault}
use Rattle.layout_gen.specs.Generated.{IsGenerated}
use Rattle.layout_gen.specs.Refusals.{generate_fault}
use Rattle.line_answers.specs.LineEffects.{refused}
use Rattle.line_answers.specs.Refusals.{no_tech}
use Rattle.workspace.specs.LibraryAnswers.Refusals.{generate_refusal}
use Rattle.workspace.specs.NetworkRuns.declared.network_runs.NetworkRun.TheVariants.{Stack}
use Rattle.workspace.specs.UndoLog.Versions.{no_versions}
use Rattle.workspace.specs.States.{State, Workspace}
use Rattle.extract_commands.specs.CellRuns.{RunsExtracted}

-- the position of the stack: it is the last of the cells that come
abbrev pub stack_cell : Workspace → ℕ
stack_cell work = length work.editing.library.cells + 2

-- The cells came to the library, and the stack is the current one. None of them was ever extracted.
abbrev pub with_stack : Workspace → LibraryView → Workspace
with_stack work after = record {
  editing = record { library = after; edits = suc work.editing.edits; current = Some (stack_cell work) };
  dirty = work.dirty;
  versions = work.versions;
}

-- the line is a refusal
abbrev pub is_refusal : LineKind → Bool
is_refusal (Refusal cause) = true
is_refusal _ = false

-- the command is refused: one of the lines that answer it says so
abbrev pub is_refused : List ReportLine → Bool
is_refused lines = list_any (λ line. is_refusal line.kind) lines

-- no edit can be undone or redone
abbrev pub without_versions : Workspace → Workspace
without_versions work = record work { versions = no_versions }

-- the same, unless these lines refuse the command
abbrev pub unless_refused : List ReportLine → Workspace → Workspace
unless_refused lines work = if is_refused lines then work else without_versions work

-- Where the command is accepted, the edits before it can't be undone any more.
abbrev pub forgets_edits : Effect State → Effect State
forgets_edits effect = record effect { state = option_map (unless_refused effect.lines) effect.state }

-- The cells are made, the stack is extracted, and its vectors are run. The cells stay, also where the command is refused then, and with them
-- the edits that can be undone.
pub record MakesStack (budget number n : ℕ) (work : Workspace) (effect : Effect State) : Type 0 where
  pub accepted : generate_fault work.editing.library work.editing.edits ≡ None
  pub after : LibraryView
  pub generated : IsGenerated work.editing.library n after
  pub ran : Effect State
  pub extracts : RunsExtracted (Stack n) budget number [] (with_stack work after) (stack_cell work) ran
  pub is : effect ≡ forgets_edits ran

-- The cells are not made.
pub record RefusesStack (number : ℕ) (work : Workspace) (effect : Effect State) : Type 0 where
  pub fault : GenerateFault
  pub is_fault : generate_fault work.editing.library work.editing.edits ≡ Some fault
  pub is : effect ≡ refused number (Some work) (generate_refusal fault) []

abbrev pub GeneratesStack : ℕ → ℕ → ℕ → Workspace → Effect State → Type 0
GeneratesStack budget number n work effect = MakesStack budget number n work effect ⊎ RefusesStack number work effect

-- It needs a technology. The number of its line is not negative.
abbrev pub GenerateMeans : ℕ → ℕ → State → ℤ → Effect State → Type 0
GenerateMeans budget number state count effect =
    MatchOption state
    (effect ≡ refused number state no_tech [])
    (λ work. GeneratesStack budget number (unsigned_abs count) work effect)
