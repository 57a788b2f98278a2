-- The state of a session as the program keeps it.
use Rattle.std.specs.Prelude.{IfSome}
use Rattle.std.specs.Option.{option_map}
use Rattle.ext_cache.specs.CellLibrary.LawfulViews.{IsSoundView}
use Rattle.ext_cache.specs.CellLibrary.Libraries.{seen}
use Rattle.library_answers.specs.EditScript.Editing.{IsCurrent, editing_of}
use Rattle.ext_cache.specs.Caches.{Agrees, is_dirty}
use Rattle.library_answers.specs.UndoLog.Inverses.{Keeps, kept_versions}
use Rattle.library_answers.specs.UndoLog.Versions.{Versions}
use Rattle.workspace.specs.declared.cells.Edited.{Edited}
use Rattle.workspace.specs.declared.cells.LayoutSession.{LayoutSession}
use Rattle.workspace.specs.States.{State, Workspace}

-- what is edited, which cells are dirty, and to which versions the log leads
abbrev pub edited_state : Edited → Workspace
edited_state edited = record {
  editing = editing_of edited.library edited.current;
  dirty = is_dirty edited.library edited.cache;
  versions = kept_versions (seen edited.library) edited.log;
}

abbrev pub state_of : LayoutSession → State
state_of session = option_map edited_state session.edited

-- The current cell is one of the library's, the records that are kept are those of the library, and the log keeps versions of it.
pub record IsEdited (edited : Edited) : Type 0 where
  pub current : IsCurrent edited.library edited.current
  pub agrees : Agrees edited.library edited.cache
  pub log : (versions : Versions) × Keeps (seen edited.library) edited.log versions

abbrev pub IsSession : LayoutSession → Type 0
IsSession session = IfSome session.edited IsEdited

-- The library that is kept, if there is one, is lawful, and its paint is sound.
abbrev pub KeepsSoundLibrary : LayoutSession → Type 0
KeepsSoundLibrary session = IfSome session.edited (λ edited. IsSoundView (seen edited.library))

-- The library of the state, if there is one, is that of a lawful library with sound paint.
abbrev pub SeesSoundLibrary : State → Type 0
SeesSoundLibrary state = IfSome state (λ work. IsSoundView work.editing.library)
