-- The commands that edit: `new`, `edit`, `paint`, `erase`, `place`, `array`, `move`, `delete`, `label` and `unlabel`.
use Rattle.std.specs.Prelude.{◌≡◌, ◌⊎◌, ℕ, Bool, true, List, [], ◌∷◌, Some, MatchOption, codes}
use Rattle.use_orders.specs.Uses.{IsAtOrBelow}
use Rattle.session_model.specs.Effects.{Effect}
use Rattle.cell_library.specs.Additions.{children_in}
use Rattle.script_lines.specs.declared.commands.Command.{Command}
use Rattle.script_lines.specs.declared.commands.Command.TheVariants as command
use Rattle.uniqueness.specs.EditScript.declared.faults.EditFault.{EditFault}
use Rattle.uniqueness.specs.EditScript.Editing.{Editing}
use Rattle.uniqueness.specs.EditScript.Edits.{applied}
use Rattle.uniqueness.specs.EditScript.Refusals.{ApplyIsRefused}
use Rattle.line_answers.specs.declared.refusals.Refusal.{Refusal}
use Rattle.line_answers.specs.LineEffects.{accepted, refused, reply}
use Rattle.line_answers.specs.Refusals.{no_cell, no_tech}
use Rattle.workspace.specs.LibraryAnswers.Refusals.{edit_refusal}
use Rattle.look_commands.specs.UndoLog.Versions.{versions_after}
use Rattle.workspace.specs.States.{State, Workspace}

-- Without a technology there is nothing to edit, and no cell to `edit`.
abbrev pub nothing_to_edit : Command → Refusal
nothing_to_edit (command.Edit name) = no_cell name
nothing_to_edit _ = no_tech

-- An edit of a cell makes it dirty and each cell that it stands below, and no other.
pub record MarksAbove (children : List (List ℕ)) (cell : ℕ) (old new : ℕ → Bool) : Type 0 where
  pub marked : (other : ℕ) → IsAtOrBelow children other cell → new other ≡ true
  pub kept : (other : ℕ) → (IsAtOrBelow children other cell → ⊥) → new other ≡ old other

-- The current cell was edited.
abbrev pub MarksCurrent : Editing → (ℕ → Bool) → (ℕ → Bool) → Type 0
MarksCurrent editing old new = MatchOption editing.current (new ≡ old) (λ cell. MarksAbove (children_in editing.library) cell old new)

-- Which cells are dirty after a command. One that chooses a cell or makes one marks none: a cell that comes was never extracted.
abbrev pub MarksAfter : Editing → Command → (ℕ → Bool) → (ℕ → Bool) → Type 0
MarksAfter editing (command.Paint layer area) old new = MarksCurrent editing old new
MarksAfter editing (command.Erase layer area) old new = MarksCurrent editing old new
MarksAfter editing (command.Place name id six) old new = MarksCurrent editing old new
MarksAfter editing (command.Array id six) old new = MarksCurrent editing old new
MarksAfter editing (command.Move id dx dy) old new = MarksCurrent editing old new
MarksAfter editing (command.Delete id) old new = MarksCurrent editing old new
MarksAfter editing (command.Label layer area position text) old new = MarksCurrent editing old new
MarksAfter editing (command.Unlabel text) old new = MarksCurrent editing old new
MarksAfter editing _ old new = new ≡ old

-- The command is not refused, and is applied. Where it changes the current cell, it can be undone, and no edit can be redone.
pub record Applies (work : Workspace) (command : Command) (effect : Effect State) : Type 0 where
  pub accepts : (fault : EditFault) → ApplyIsRefused work.editing command fault → ⊥
  pub dirty : ℕ → Bool
  pub marks : MarksAfter work.editing command work.dirty dirty
  pub is : effect ≡ accepted (Some (record {
    editing = applied work.editing command;
    dirty = dirty;
    versions = versions_after work.editing command work.versions;
  })) (reply (codes "ok") ∷ []) []

-- The command is refused.
pub record RefusesEdit (number : ℕ) (work : Workspace) (command : Command) (effect : Effect State) : Type 0 where
  pub fault : EditFault
  pub is_refused : ApplyIsRefused work.editing command fault
  pub is : effect ≡ refused number (Some work) (edit_refusal fault) []

abbrev pub EditMeans : ℕ → State → Command → Effect State → Type 0
EditMeans number state command effect =
    MatchOption state
    (effect ≡ refused number state (nothing_to_edit command) [])
    (λ work. Applies work command effect ⊎ RefusesEdit number work command effect)
