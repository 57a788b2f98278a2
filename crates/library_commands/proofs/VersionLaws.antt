-- The versions that the log of a session keeps after a command that edits.
use Rattle.library_commands.proofs.Common.{◌≡◌, ◌∙◌, sym, ap, CellKey, LibraryParts, seen, Command, editing_of, Inverses, Keeps, kept_versions}
use Rattle.library_commands.proofs.Common.{Versions, versions_after, versions_unique, KeepsSome}
use Rattle.std.specs.Prelude.{Option}

-- after a command that edits it keeps those that the command leaves
pub log_applied : (old new : LibraryParts) (current : Option CellKey) (log later : Inverses) (command : Command) → KeepsSome (seen old) log
    → ((versions : Versions) → Keeps (seen old) log versions → Keeps (seen new) later (versions_after (editing_of old current) command versions))
    → KeepsSome (seen new) later
log_applied old new current log later command (versions, keeps) applied = (versions_after (editing_of old current) command versions, applied versions keeps)

-- and these are its versions
pub versions_applied : (old new : LibraryParts) (current : Option CellKey) (log later : Inverses) (command : Command) → KeepsSome (seen old) log
    → ((versions : Versions) → Keeps (seen old) log versions → Keeps (seen new) later (versions_after (editing_of old current) command versions))
    → kept_versions (seen new) later ≡ versions_after (editing_of old current) command (kept_versions (seen old) log)
versions_applied old new current log later command (versions, keeps) applied =
    sym (versions_unique (seen new) later (versions_after (editing_of old current) command versions) (applied versions keeps))
    ∙ ap (versions_after (editing_of old current) command) (versions_unique (seen old) log versions keeps)
