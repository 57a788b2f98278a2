-- The runs of a row, and how they change from one row to the next.
use Rattle.std.specs.Prelude.{◌≡◌, ◌⊎◌, ℤ, ◌≤ℤ◌, ◌<ℤ◌, Option, Some, None, List, cond}
use Rattle.std.specs.Ordering.{is_eq, int_cmp}
use Rattle.geo_core.specs.FiniteSets.Lists.{In}
use Rattle.geo_strips.specs.declared.bars.Bar.{Bar}
use Rattle.geo_strips.specs.declared.row_runs.Run.{Run}

-- the run that begins at a column, if there is one
abbrev pub Row : Type 0
Row = ℤ → Option Run

-- a run has the column
pub record IsInRow (row : Row) (x : ℤ) : Type 0 where
  pub from : ℤ
  pub run : Run
  pub begins : row from ≡ Some run
  pub after : from ≤ℤ x
  pub before : x <ℤ run.to

-- each run has columns, and none touches the next one
pub record AreRuns (row : Row) : Type 0 where
  pub long : (from : ℤ) (run : Run) → row from ≡ Some run → from <ℤ run.to
  pub apart : (a b : ℤ) (first second : Run) → row a ≡ Some first → row b ≡ Some second → a <ℤ b → first.to <ℤ b

-- what is written of a run that ends at the row y
abbrev pub bar_of : ℤ → Run → ℤ → Bar
bar_of from run y = record { low = from; high = run.to; from = run.since; to = y }

-- some run that has rows was written
pub record IsWritten (row : Row) (y : ℤ) (bar : Bar) : Type 0 where
  pub from : ℤ
  pub run : Run
  pub begins : row from ≡ Some run
  pub high : run.since <ℤ y
  pub is : bar_of from run y ≡ bar

-- the runs changed at the row y: new ones are there since then, and the old ones that ended there were written
pub record Changes (y : ℤ) (old new : Row) (before after : List Bar) : Type 0 where
  pub fresh : (from : ℤ) (run : Run) → new from ≡ Some run → (old from ≡ Some run) ⊎ (run.since ≡ y)
  pub ended : (from : ℤ) (run : Run) → old from ≡ Some run → (new from ≡ Some run) ⊎ (In (bar_of from run y) after ⊎ (y ≤ℤ run.since))
  pub kept : (bar : Bar) → In bar before → In bar after
  pub written : (bar : Bar) → In bar after → In bar before ⊎ IsWritten old y bar

-- the runs that meet or touch the columns were taken out: together with the columns they fill those from `left` on and before `right`
pub record IsTaken (from to left right : ℤ) (old new : Row) : Type 0 where
  pub first : left ≤ℤ from
  pub last : to ≤ℤ right
  pub rest : (a : ℤ) (run : Run) → new a ≡ Some run → (old a ≡ Some run) × ((run.to <ℤ left) ⊎ (right <ℤ a))
  pub gone : (a : ℤ) (run : Run) → old a ≡ Some run → (new a ≡ Some run) ⊎ ((left ≤ℤ a) × (run.to ≤ℤ right))
  pub on_left : (x : ℤ) → left ≤ℤ x → x <ℤ from → IsInRow old x
  pub on_right : (x : ℤ) → to ≤ℤ x → x <ℤ right → IsInRow old x

-- the last run that begins no later than x
pub record IsLastRun (row : Row) (x from : ℤ) (run : Run) : Type 0 where
  pub begins : row from ≡ Some run
  pub no_later : from ≤ℤ x
  pub last : (a : ℤ) (other : Run) → row a ≡ Some other → a ≤ℤ x → a ≤ℤ from

-- the run meets or touches the columns
pub record Touches (row : Row) (from to start : ℤ) (run : Run) : Type 0 where
  pub begins : row start ≡ Some run
  pub no_later : start ≤ℤ to
  pub no_sooner : from ≤ℤ run.to

-- the runs without the one that begins at the column
abbrev pub without : ℤ → Row → Row
without start row a = cond (is_eq (int_cmp start a)) None (row a)

-- no run meets or touches the columns
abbrev pub LiesClear : ℤ → ℤ → Row → Type 0
LiesClear from to row = (a : ℤ) (run : Run) → row a ≡ Some run → (run.to <ℤ from) ⊎ (to <ℤ a)

-- the columns from `from` on and before `to`, if there are any, are a run more, since the row y
pub record IsPlaced (from to y : ℤ) (old new : Row) : Type 0 where
  pub apart : AreRuns new
  pub kept : (a : ℤ) (run : Run) → old a ≡ Some run → new a ≡ Some run
  pub fresh : (a : ℤ) (run : Run) → new a ≡ Some run → (old a ≡ Some run) ⊎ ((a ≡ from) × (run.to ≡ to) × (run.since ≡ y))
  pub added : (x : ℤ) → from ≤ℤ x → x <ℤ to → IsInRow new x

-- the columns from `from` on and before `to` came to the runs at the row y
pub record IsCovered (from to y : ℤ) (old new : Row) (before after : List Bar) : Type 0 where
  pub apart : AreRuns new
  pub changes : Changes y old new before after
  pub kept : (x : ℤ) → IsInRow old x → IsInRow new x
  pub added : (x : ℤ) → from ≤ℤ x → x <ℤ to → IsInRow new x
  pub only : (x : ℤ) → IsInRow new x → IsInRow old x ⊎ ((from ≤ℤ x) × (x <ℤ to))

-- or went out of them
pub record IsUncovered (from to y : ℤ) (old new : Row) (before after : List Bar) : Type 0 where
  pub apart : AreRuns new
  pub changes : Changes y old new before after
  pub stayed : (x : ℤ) → IsInRow new x → IsInRow old x
  pub none : (x : ℤ) → from ≤ℤ x → x <ℤ to → IsInRow new x → ⊥
  pub kept : (x : ℤ) → IsInRow old x → IsInRow new x ⊎ ((from ≤ℤ x) × (x <ℤ to))
