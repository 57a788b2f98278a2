-- The versions that the log of a session keeps.
use Rattle.workspace.proofs.Common.{◌≡◌, sym, subst, LibraryParts, IsSame, seen, LibraryView}
use Rattle.library_answers.specs.UndoLog.Inverses.{Inverses, Keeps, no_inverses}
use Rattle.library_answers.specs.UndoLog.Versions.{Versions, no_versions}
use Rattle.library_answers.proofs.UndoLog.LeadLaws.{nothing_kept}

-- it keeps some
abbrev pub KeepsSome : LibraryView → Inverses → Type 0
KeepsSome view log = (versions : Versions) × Keeps view log versions

-- a log that was left as it is keeps them where nothing changed
pub log_same : (old new : LibraryParts) (log later : Inverses) → IsSame old new → later ≡ log → KeepsSome (seen old) log → KeepsSome (seen new) later
log_same old new log later same logged keeps =
    subst (λ (view : LibraryView). KeepsSome view later) (sym same.seen) (subst (KeepsSome (seen old)) (sym logged) keeps)

-- a log that was forgotten keeps none
pub log_forgotten : (view : LibraryView) (log : Inverses) → log ≡ no_inverses → KeepsSome view log
log_forgotten view log none = subst (KeepsSome view) (sym none) (no_versions, nothing_kept view)
