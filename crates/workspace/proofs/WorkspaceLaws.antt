-- What is edited and which cells are dirty, as the program keeps them.
use Rattle.workspace.proofs.Common.{◌≡◌, ◌<◌, ◌∙◌, ℕ, length, Option, sym, ap, subst, IfSome, CellKey, IsSame, LibraryParts, seen, LibraryView}
use Rattle.workspace.proofs.Common.{Records, is_dirty, Workspace}
use Rattle.library_answers.specs.EditScript.Editing.{IsCurrent, editing_of}
use Rattle.ext_cache.proofs.CellLibrary.ViewLaws.{count_seen}
use Rattle.ext_cache.proofs.RecordLaws.{dirty_same}
use Rattle.library_answers.specs.UndoLog.Inverses.{Inverses, kept_versions}

-- what is edited and what is dirty, where the program keeps this
abbrev pub workspace_of : LibraryParts → Option CellKey → Records → Inverses → Workspace
workspace_of library current records log =
    record { editing = editing_of library current; dirty = is_dirty library records; versions = kept_versions (seen library) log }

-- where nothing changed, the same is edited
pub same_editing : (old new : LibraryParts) (current : Option CellKey) → IsSame old new → editing_of new current ≡ editing_of old current
same_editing old new current same =
    λ i. record { library = same.seen i; edits = (same.tree i).edits; current = (editing_of old current).current }

-- the same is dirty, and the log leads to the same versions
pub same_workspace : (old new : LibraryParts) (current : Option CellKey) (records : Records) (log : Inverses) → IsSame old new
    → workspace_of new current records log ≡ workspace_of old current records log
same_workspace old new current records log same = λ i. record {
  editing = same_editing old new current same i;
  dirty = λ cell. dirty_same old new records cell same i;
  versions = kept_versions (same.seen i) log;
}

-- the current cell stays one of the library's where nothing changed
pub same_current : (old new : LibraryParts) (current : Option CellKey) → IsSame old new → IsCurrent old current → IsCurrent new current
same_current old new current same is =
    let count : length old.contents ≡ length new.contents =
    sym (count_seen old) ∙ ap (λ (view : LibraryView). length view.cells) (sym same.seen) ∙ count_seen new in
    subst (λ (n : ℕ). IfSome current (λ key. key.0 < n)) count is
