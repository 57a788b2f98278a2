-- `undo` and `redo`: they bring a cell back to the version that it had before an edit, or after one that was undone.
use Rattle.std.specs.Prelude.{◌≡◌, ◌≢◌, ◌⊎◌, ℕ, suc, [], ◌∷◌, Bool, Option, None, Some, IsSome, MatchOption, codes}
use Rattle.session_model.specs.Effects.{Effect}
use Rattle.cell_library.specs.Additions.{children_in}
use Rattle.cell_library.specs.declared.limits.TheConstants.{MOST_EDITS}
use Rattle.line_answers.specs.LineEffects.{accepted, refused, reply}
use Rattle.look_commands.specs.UndoLog.declared.faults.UndoFault.{UndoFault}
use Rattle.look_commands.specs.UndoLog.declared.faults.UndoFault.TheVariants.{Edits, NothingToRedo, NothingToUndo}
use Rattle.look_commands.specs.UndoLog.Versions.{Return, Versions, redone, undone, versions_redone, versions_undone}
use Rattle.workspace.specs.LibraryAnswers.Refusals.{undo_refusal}
use Rattle.workspace.specs.States.{State, Workspace}
use Rattle.library_commands.specs.declared.command_returns.Way.{Way}
use Rattle.library_commands.specs.declared.command_returns.Way.TheVariants.{Redo, Undo}
use Rattle.library_commands.specs.CommandEdits.{MarksAbove}

-- what becomes of the library and its versions, where an edit is left
abbrev pub return_by : Way → Workspace → Option Return
return_by Undo work = undone work.editing.library work.versions
return_by Redo work = redone work.editing.library work.versions

-- that no edit is left
abbrev pub nothing_left : Way → UndoFault
nothing_left Undo = NothingToUndo
nothing_left Redo = NothingToRedo

-- the versions then
abbrev pub versions_by : Way → Return → Versions
versions_by Undo back = versions_undone back
versions_by Redo back = versions_redone back

-- The cell has its version, as one more edit of it, and the current cell stays.
abbrev pub brought_back : Way → Workspace → Return → (ℕ → Bool) → Workspace
brought_back way work back dirty = record {
  editing = record { library = back.library; edits = suc work.editing.edits; current = work.editing.current };
  dirty = dirty;
  versions = versions_by way back;
}

-- An edit is left, and there were not too many: what is edited after it. The cell and those above it are dirty, and no other cell became so.
pub record IsBrought (way : Way) (work now : Workspace) : Type 0 where
  pub back : Return
  pub is_left : return_by way work ≡ Some back
  pub few : work.editing.edits ≢ MOST_EDITS
  pub dirty : ℕ → Bool
  pub marks : MarksAbove (children_in work.editing.library) back.cell work.dirty dirty
  pub is : now ≡ brought_back way work back dirty

-- A cell is brought to its version.
pub record Returns (way : Way) (work : Workspace) (effect : Effect State) : Type 0 where
  pub now : Workspace
  pub is_brought : IsBrought way work now
  pub is : effect ≡ accepted (Some now) (reply (codes "ok") ∷ []) []

-- No edit is left; or one is, and there were too many edits.
abbrev pub ReturnIsRefused : Way → Workspace → UndoFault → Type 0
ReturnIsRefused way work told =
    ((return_by way work ≡ None) × (told ≡ nothing_left way))
    ⊎ (IsSome (return_by way work) × (work.editing.edits ≡ MOST_EDITS) × (told ≡ Edits))

-- The command is refused, and changes nothing.
pub record RefusesReturn (way : Way) (number : ℕ) (work : Workspace) (effect : Effect State) : Type 0 where
  pub fault : UndoFault
  pub is_refused : ReturnIsRefused way work fault
  pub is : effect ≡ refused number (Some work) (undo_refusal fault) []

-- Without a technology nothing was edited.
abbrev pub ReturnMeans : Way → ℕ → State → Effect State → Type 0
ReturnMeans way number state effect =
    MatchOption state
    (effect ≡ refused number state (undo_refusal (nothing_left way)) [])
    (λ work. Returns way work effect ⊎ RefusesReturn way number work effect)
