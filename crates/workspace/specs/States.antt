-- The state of a session between two lines.
use Rattle.std.specs.Prelude.{ℕ, Bool, true, [], Option, None}
use Rattle.tech_model.specs.declared.raw.RawTech.{RawTech}
use Rattle.library_answers.specs.EditScript.Editing.{Editing}
use Rattle.library_answers.specs.UndoLog.Versions.{Versions, no_versions}

-- What is edited, which cells are dirty, and the versions of cells to which `undo` and `redo` lead. Dirty are those, by their positions, that
-- were never extracted, or that an edit changed since, or a cell that stood below them at that edit. What is no cell was never extracted.
pub record Workspace : Type 0 where
  pub editing : Editing
  pub dirty : ℕ → Bool
  pub versions : Versions

-- Once a technology was read, there is a library over it, which is edited. A library has its cells in the order in which they came.
abbrev pub State : Type 0
State = Option Workspace

-- there is no technology at the start
abbrev pub first_state : State
first_state = None

-- the library without cells over a technology
abbrev pub begun_with : RawTech → Workspace
begun_with raw = record {
  editing = record { library = record { tech = raw; scale = None; cells = [] }; edits = 0; current = None };
  dirty = λ cell. true;
  versions = no_versions;
}
