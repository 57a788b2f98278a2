-- Refusals for files that could not be had are counted: there are no more of them than the shelf's count of such answers rose by.
use Rattle.std.specs.Prelude.{◌≤◌, ◌⊎◌, ◌+◌, ℕ, List, count_by}
use Rattle.std.specs.List.{list_any}
use Rattle.outside_io.specs.declared.limits.TheConstants.{LAST_COUNT}
use Rattle.outside_io.specs.declared.outside.Shelf.{Ghosts as ShelfWords}
use Rattle.session_model.specs.declared.report.ReportLine.{ReportLine}
use Rattle.session_model.specs.Causes.{line_kinds}
use Rattle.session_model.specs.Reports.{is_for_absent, is_for_too_long}

-- A count rose by so many at least, or it stands at its last value.
abbrev pub RoseBy : ℕ → ℕ → ℕ → Type 0
RoseBy many before now = (before + many ≤ now) ⊎ (LAST_COUNT ≤ now)

-- What lines are answered: for each of them that is refused since a file is not there, or since it is too long, that count of the shelf rose
-- by one at least.
pub record AreCounted {F : Type 0} (shelf : ShelfWords F) (old new : F) (answers : List (List ReportLine)) : Type 0 where
  pub absent : RoseBy (count_by (λ lines. list_any is_for_absent (line_kinds lines)) answers) (shelf.absences old) (shelf.absences new)
  pub too_long : RoseBy (count_by (λ lines. list_any is_for_too_long (line_kinds lines)) answers) (shelf.overlengths old) (shelf.overlengths new)
