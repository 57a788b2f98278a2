-- Which cells are dirty after a command that edits.
use Rattle.library_commands.proofs.Common.{◌≡◌, ◌∙◌, suc, length, Option, Some, None, arith, IfSome, CellKey, LibraryParts, IsLawfulLibrary, IsSame}
use Rattle.library_commands.proofs.Common.{seen, CellView, LibraryView, view_at, with_cell_changed, length-changed_at, Command, editing_of, applied}
use Rattle.library_commands.proofs.Common.{Agrees, Records, is_dirty, agrees_same, MarksAfter, MarksCurrent}
use Rattle.script_lines.specs.declared.commands.Command.TheVariants as command
use Rattle.uniqueness.specs.EditScript.Stamps.{IsCurrentEdit, IsStamped}
use Rattle.uniqueness.proofs.EditScript.KeptCells.{cells_kept}
use Rattle.workspace.proofs.ArrivalLaws.{agrees_cell, dirty_cell}
use Rattle.workspace.proofs.EditLaws.{agrees_edit, dirty_edit, dirty_unedited}
use Rattle.workspace.proofs.RecordLaws.{dirty_same}
use Rattle.library_commands.proofs.ChangedCells.{ChangesCell, ChangesCells, ChangesCurrent, cells_changed}

-- what an edit of the current cell leaves of records and marks
pub current_edited : (old new : LibraryParts) (current : Option CellKey) (after : LibraryView) (records : Records) → IsLawfulLibrary old
    → IsCurrentEdit old new current → IfSome (editing_of old current).current (λ cell. ChangesCell cell (seen old) after) → seen new ≡ after
    → Agrees old records
    → Agrees new records × MarksCurrent (editing_of old current) (is_dirty old records) (is_dirty new records)
current_edited old new None after records lawful edit changes is agrees = absurd edit
current_edited old new (Some cell) after records lawful edit changes is agrees =
    let change : CellView → CellView = changes.0 in
    let same : seen new ≡ with_cell_changed (seen old) cell.0 change = is ∙ changes.1 in (
      agrees_edit old new records cell.0 lawful edit agrees ((λ i. length (same i).cells) ∙ length-changed_at (seen old).cells cell.0 change)
          (λ i. (same i).tech) change same,
      record {
        marked = λ key below. dirty_edit old new records cell.0 lawful edit agrees key below;
        kept = λ key free. dirty_unedited old new records cell.0 lawful edit agrees key free;
      },
    )

-- what a command leaves of records and marks where the program did it
pub marks_applied : (old new : LibraryParts) (current now : Option CellKey) (records : Records) (command : Command) → IsLawfulLibrary old
    → IsStamped old new current command → editing_of new now ≡ applied (editing_of old current) command → Agrees old records
    → Agrees new records × MarksAfter (editing_of old current) command (is_dirty old records) (is_dirty new records)
marks_applied old new current now records one lawful stamped is agrees =
    go one stamped (λ i. (is i).library) (cells_changed (editing_of old current) one)
  where
    same : IsSame old new → Agrees new records × (is_dirty new records ≡ is_dirty old records)
    same is = (agrees_same old new records is agrees, (λ i cell. dirty_same old new records cell is i))

    edited : (command : Command) → IsCurrentEdit old new current → seen new ≡ (applied (editing_of old current) command).library
        → ChangesCurrent (editing_of old current) command
        → Agrees new records × MarksCurrent (editing_of old current) (is_dirty old records) (is_dirty new records)
    edited command edit is changes = current_edited old new current (applied (editing_of old current) command).library records lawful edit changes is agrees

    go : (command : Command) → IsStamped old new current command → seen new ≡ (applied (editing_of old current) command).library
        → ChangesCells (editing_of old current) command
        → Agrees new records × MarksAfter (editing_of old current) command (is_dirty old records) (is_dirty new records)
    go (command.New name) came is changes =
        let keeps = cells_kept (editing_of old current) (command.New name) in (
          agrees_cell old new records lawful came agrees
              (let count : length (seen new).cells ≡ suc (length (seen old).cells) = (λ i. length (is i).cells) ∙ keeps.count in omega (arith, count))
              ((λ i. (is i).tech) ∙ keeps.tech) (λ cell below. (λ i. view_at (is i) cell) ∙ keeps.earlier cell below),
          (λ i cell. dirty_cell old new records lawful came agrees cell i),
        )
    go (command.Paint layer area) edit is changes = edited (command.Paint layer area) edit is changes
    go (command.Erase layer area) edit is changes = edited (command.Erase layer area) edit is changes
    go (command.Place name id six) edit is changes = edited (command.Place name id six) edit is changes
    go (command.Array id six) edit is changes = edited (command.Array id six) edit is changes
    go (command.Move id dx dy) edit is changes = edited (command.Move id dx dy) edit is changes
    go (command.Delete id) edit is changes = edited (command.Delete id) edit is changes
    go (command.Label layer area position text) edit is changes = edited (command.Label layer area position text) edit is changes
    go (command.Unlabel text) edit is changes = edited (command.Unlabel text) edit is changes
    go (command.Edit name) stamped is changes = same stamped
    go command.Undo stamped is changes = same stamped
    go command.Redo stamped is changes = same stamped
    go (command.Tech name) stamped is changes = same stamped
    go (command.Load name) stamped is changes = same stamped
    go (command.Save name) stamped is changes = same stamped
    go (command.Nodes name) stamped is changes = same stamped
    go (command.Squares name) stamped is changes = same stamped
    go (command.Drc name file) stamped is changes = same stamped
    go (command.Cif name) stamped is changes = same stamped
    go (command.Cifstat file) stamped is changes = same stamped
    go (command.Extract name) stamped is changes = same stamped
    go (command.Flat name) stamped is changes = same stamped
    go (command.Sim name) stamped is changes = same stamped
    go (command.Vectors name file) stamped is changes = same stamped
    go (command.Grade name file) stamped is changes = same stamped
    go (command.Generate n) stamped is changes = same stamped
    go (command.Ext2sim name) stamped is changes = same stamped
    go (command.Simrun name file) stamped is changes = same stamped
