-- Laws of sessions, as statements.
use Rattle.std.specs.Prelude.{◌≡◌, true, ◌≤◌, ◌+◌, ℕ, Bool, List}
use Rattle.outside_io.specs.Files.{Files}
use Rattle.session_model.specs.Counted.{RoseBy}
use Rattle.session_model.specs.Progress.{IsCutShort, IsPrefixOf, StoresSome}
use Rattle.session_model.specs.Reports.{report_of}
use Rattle.session_model.specs.Scripts.{Act, lines_in, stores_in}

-- What is reported of a session that was cut short is the beginning of its report, and the files that are left are those after a first few
-- of its stores, but for the name of the one that failed, where one did.
abbrev pub BeginsWhole : Type 0
BeginsWhole =
    (quiet failed : Bool) (files : Files) (acts : List Act) (reported : List ℕ) (after : Files)
    → IsCutShort quiet (failed ≡ true) files acts reported after
    → IsPrefixOf reported (report_of quiet (lines_in acts)) × StoresSome (failed ≡ true) files (stores_in acts) after

-- What rose by the number of one list's refusals, and then by that of another's, rose by the number of both.
abbrev pub AreCountedTogether : Type 0
AreCountedTogether =
    (few many first middle last : ℕ) → first ≤ middle → middle ≤ last → RoseBy few first middle → RoseBy many middle last → RoseBy (few + many) first last
