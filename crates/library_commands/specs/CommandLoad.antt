-- `load c`: reads c.mag and the file of every cell below it that the library lacks.
use Rattle.std.specs.Prelude.{◌≡◌, ◌⊎◌, ℕ, suc, List, [], ◌∷◌, length, Some, MatchOption}
use Rattle.outside_io.specs.Files.{Files}
use Rattle.session_model.specs.Effects.{Effect}
use Rattle.cell_library.specs.Views.{LibraryView}
use Rattle.uniqueness.specs.CellLoading.declared.faults.LoadFault.{LoadFault}
use Rattle.uniqueness.specs.CellLoading.Loads.{IsLoaded, LoadIsRefused}
use Rattle.line_answers.specs.LineEffects.{accepted, refused, reply}
use Rattle.line_answers.specs.Refusals.{no_tech}
use Rattle.workspace.specs.LibraryAnswers.Refusals.{load_refusal}
use Rattle.workspace.specs.LibraryAnswers.Replies.{loaded_text}
use Rattle.look_commands.specs.UndoLog.Versions.{no_versions}
use Rattle.workspace.specs.States.{State, Workspace}

-- The cells came to the library, and the first of them is the current one. None of them was ever extracted. The edits before can't be undone
-- any more.
abbrev pub with_loaded : Workspace → LibraryView → Workspace
with_loaded work after = record {
  editing = record { library = after; edits = suc work.editing.edits; current = Some (length work.editing.library.cells) };
  dirty = work.dirty;
  versions = no_versions;
}

-- The cells of the files came.
pub record Loads (work : Workspace) (files : Files) (cell : List ℕ) (effect : Effect State) : Type 0 where
  pub after : LibraryView
  pub count : ℕ
  pub fetched : List (List ℕ)
  pub is_loaded : IsLoaded files work.editing.library after work.editing.edits cell count fetched
  pub is : effect ≡ accepted (Some (with_loaded work after)) (reply (loaded_text cell count) ∷ []) fetched

-- The load is refused.
pub record RefusesLoad (number : ℕ) (work : Workspace) (files : Files) (cell : List ℕ) (effect : Effect State) : Type 0 where
  pub fault : LoadFault
  pub fetched : List (List ℕ)
  pub is_refused : LoadIsRefused files work.editing.library work.editing.edits cell fetched fault
  pub is : effect ≡ refused number (Some work) (load_refusal fault) fetched

-- It needs a technology.
abbrev pub LoadMeans : ℕ → State → Files → List ℕ → Effect State → Type 0
LoadMeans number state files cell effect =
    MatchOption state
    (effect ≡ refused number state no_tech [])
    (λ work. Loads work files cell effect ⊎ RefusesLoad number work files cell effect)
