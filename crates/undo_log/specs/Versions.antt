-- What a session means by undo and redo: versions of cells, and what becomes of them.
use Rattle.std.specs.Prelude.{ℕ, true, false, Bool, if◌then◌else◌, List, [], ◌∷◌, Option, None, Some}
use Rattle.std.specs.Option.{option_map_or}
use Rattle.edit_script.specs.CellLibrary.Views.{CellView, LibraryView, view_at, with_cell_changed}
use Rattle.edit_script.specs.ScriptLines.declared.commands.Command.{Command}
use Rattle.edit_script.specs.ScriptLines.declared.commands.Command.TheVariants as command
use Rattle.edit_script.specs.Editing.{Editing}

-- A cell as it was: its position among the cells, and all that it had.
pub record Version : Type 0 where
  pub cell : ℕ
  pub body : CellView

-- The versions before the edits that are done, and those before the edits that were taken back, in each the latest first.
pub record Versions : Type 0 where
  pub done : List Version
  pub undone : List Version

-- no edit is done, and none was taken back
abbrev pub no_versions : Versions
no_versions = record { done = []; undone = [] }

-- a cell as it is
abbrev pub version_of : LibraryView → ℕ → Version
version_of view cell = record { cell = cell; body = view_at view cell }

-- the library with a version in the place of what its cell has
abbrev pub with_version : LibraryView → Version → LibraryView
with_version view version = with_cell_changed view version.cell (λ _. version.body)

-- ---- edits

-- an edit of the cell was made, before which the library was this one
abbrev pub after_edit : LibraryView → ℕ → Versions → Versions
after_edit view cell versions = record { done = version_of view cell ∷ versions.done; undone = [] }

-- the command changes the current cell
abbrev pub is_edit : Command → Bool
is_edit (command.Paint layer area) = true
is_edit (command.Erase layer area) = true
is_edit (command.Place name id six) = true
is_edit (command.Array id six) = true
is_edit (command.Move id dx dy) = true
is_edit (command.Delete id) = true
is_edit (command.Label layer area position text) = true
is_edit (command.Unlabel text) = true
is_edit _ = false

-- The versions after a command that is accepted: one that makes a cell or chooses one leaves them.
abbrev pub versions_after : Editing → Command → Versions → Versions
versions_after editing command versions =
    if is_edit command then option_map_or (λ cell. after_edit editing.library cell versions) editing.current versions else versions

-- ---- undo and redo

-- A library was brought to a version: the cell of the version, the library then, the versions before it, and those that lead back.
pub record Return : Type 0 where
  pub cell : ℕ
  pub library : LibraryView
  pub earlier : List Version
  pub later : List Version

-- The library is brought to the latest of the earlier versions, where there is one, and what its cell had becomes the latest of the others.
abbrev pub returned : LibraryView → List Version → List Version → Option Return
returned view [] later = None
returned view (version ∷ earlier) later =
    Some (record {
      cell = version.cell;
      library = with_version view version;
      earlier = earlier;
      later = version_of view version.cell ∷ later;
    })

-- what `undo` makes of a library and its versions
abbrev pub undone : LibraryView → Versions → Option Return
undone view versions = returned view versions.done versions.undone

-- what `redo` makes of them: the same, with the lists exchanged
abbrev pub redone : LibraryView → Versions → Option Return
redone view versions = returned view versions.undone versions.done

-- the versions after an `undo`
abbrev pub versions_undone : Return → Versions
versions_undone back = record { done = back.earlier; undone = back.later }

-- the versions after a `redo`
abbrev pub versions_redone : Return → Versions
versions_redone back = record { done = back.later; undone = back.earlier }
