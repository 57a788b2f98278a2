-- The sweep over rows, from one event to the next.
use Rattle.std.specs.Prelude.{◌≡◌, ◌⊎◌, ℤ, ◌≤ℤ◌, ◌<ℤ◌, Some, List}
use Rattle.std.specs.Ordering.{int_cmp}
use Rattle.std.specs.BTreeMap.{get}
use Rattle.geo_core.specs.FiniteSets.Lists.{In}
use Rattle.geo_core.specs.declared.squares.Square.{Square}
use Rattle.geo_strips.specs.declared.bars.Bar.{Bar}
use Rattle.geo_strips.specs.declared.row_events.Event.{Event}
use Rattle.geo_strips.specs.declared.sweeping.Sweep.{Sweep}
use Rattle.geo_strips.specs.Coverage.{IsRaised, IsGap}
use Rattle.geo_strips.specs.RowRuns.{Row, IsInRow, AreRuns, Changes, IsCovered}
use Rattle.geo_core.specs.Strips.{IsRun}

-- the runs of the sweep's row
abbrev pub row_of : Sweep → Row
row_of sweep = get int_cmp sweep.runs

-- a rectangle has begun
pub record RectBegins (event : Event) (old new : Sweep) : Type 0 where
  pub covered : IsCovered event.from event.to event.row (row_of old) (row_of new) old.found.items new.found.items
  pub raised : IsRaised (Some event.from) (Some event.to) event.top old.coverage new.coverage

-- rectangles have ended: the columns among these that are covered no more went out of the runs
pub record RectsEnd (event : Event) (old new : Sweep) : Type 0 where
  pub apart : AreRuns (row_of new)
  pub changes : Changes event.row (row_of old) (row_of new) old.found.items new.found.items
  pub stayed : (x : ℤ) → IsInRow (row_of new) x → IsInRow (row_of old) x
  pub none : (x : ℤ) → IsGap old.coverage event.from event.to event.row x → IsInRow (row_of new) x → ⊥
  pub kept : (x : ℤ) → IsInRow (row_of old) x → IsInRow (row_of new) x ⊎ IsGap old.coverage event.from event.to event.row x
  pub same : new.coverage ≡ old.coverage

-- some bar has the square: the columns from its `low` on and before its `high`, and the rows between its ends
pub record HaveSquare (bars : List Bar) (x y : ℤ) : Type 0 where
  pub bar : Bar
  pub in_list : In bar bars
  pub left : bar.low ≤ℤ x
  pub right : x <ℤ bar.high
  pub from : bar.from ≤ℤ y
  pub to : y <ℤ bar.to

-- in each of its rows each bar is a run of the set, and each square of the set is in one
pub record AreRunBars (S : Square → Type 0) (bars : List Bar) : Type 0 where
  pub long : (bar : Bar) → In bar bars → bar.from <ℤ bar.to
  pub runs : (bar : Bar) → In bar bars → (y : ℤ) → bar.from ≤ℤ y → y <ℤ bar.to → IsRun S bar.low bar.high y
  pub complete : (x y : ℤ) → S (record { x = x; y = y }) → HaveSquare bars x y
