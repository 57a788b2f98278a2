-- What a designer may count on: undo takes an edit back, and redo gives it again. And what a session may: cells may come between edits.
use Rattle.std.specs.Prelude.{◌≡◌, ◌<◌, ℕ, true, Some, length}
use Rattle.edit_script.specs.CellLibrary.LayoutModel.Places.{Place}
use Rattle.edit_script.specs.CellLibrary.LawfulViews.{IsLawfulView}
use Rattle.edit_script.specs.CellLibrary.Views.{CellView, LibraryView, view_at}
use Rattle.edit_script.specs.ScriptLines.declared.commands.Command.{Command}
use Rattle.edit_script.specs.Editing.{Editing}
use Rattle.edit_script.specs.Edits.{applied}
use Rattle.undo_log.specs.Inverses.{CellsCame, Inverses, Keeps, kept_versions, no_inverses}
use Rattle.undo_log.specs.Versions.{Return, Versions, is_edit, no_versions, redone, undone, versions_after, versions_undone}

-- Two cells have the same: the same type at each place of their own paint, and the same uses and labels, each in one order.
pub record HaveTheSame (a b : CellView) : Type 0 where
  pub own : (place : Place) → a.own place ≡ b.own place
  pub uses : a.uses ≡ b.uses
  pub labels : a.labels ≡ b.labels

-- Two libraries have as many cells, and each cell has the same in both.
pub record AreAlike (a b : LibraryView) : Type 0 where
  pub count : length a.cells ≡ length b.cells
  pub each : (cell : ℕ) → HaveTheSame (view_at a cell) (view_at b cell)

-- `undo` brings a library to one like this.
pub record IsUndoneTo (after : LibraryView) (versions : Versions) (before : LibraryView) (back : Return) : Type 0 where
  pub is : undone after versions ≡ Some back
  pub alike : AreAlike back.library before

-- `redo` does.
pub record IsRedoneTo (before : LibraryView) (versions : Versions) (after : LibraryView) (again : Return) : Type 0 where
  pub is : redone before versions ≡ Some again
  pub alike : AreAlike again.library after

-- After an edit of the current cell and `undo` each cell has what it had, and `redo` gives back what `undo` took.
abbrev pub EditsAreTakenBack : Type 0
EditsAreTakenBack =
    (editing : Editing) (command : Command) (versions : Versions) (cell : ℕ) → editing.current ≡ Some cell → cell < length editing.library.cells
    → is_edit command ≡ true
    → let after = (applied editing command).library in
    (back : Return) × IsUndoneTo after (versions_after editing command versions) editing.library back
    × ((again : Return) × IsRedoneTo back.library (versions_undone back) after again)

-- A log keeps its versions of a library to which cells come.
abbrev pub CellsMayCome : Type 0
CellsMayCome =
    (old new : LibraryView) (log : Inverses) (versions : Versions) → CellsCame old new → IsLawfulView new → Keeps old log versions
    → Keeps new log versions

-- A log keeps one list of versions of each kind, which the library and the inverses give.
abbrev pub KeptVersionsAreUnique : Type 0
KeptVersionsAreUnique = (view : LibraryView) (log : Inverses) (versions : Versions) → Keeps view log versions → versions ≡ kept_versions view log

-- A log without edits keeps no versions of any library.
abbrev pub NothingIsKept : Type 0
NothingIsKept = (view : LibraryView) → Keeps view no_inverses no_versions
