-- Runs of a row and rows of runs: the number at each square, and what holds of all that a plane has.
use Rattle.std.specs.Prelude.{◌≡◌, ◌≢◌, ◌&&◌, ℕ, ◌^◌, ℤ, pos, neg_ℤ, ◌≤ℤ◌, ◌<ℤ◌, int_le, int_lt, if◌then◌else◌, List, [], ◌∷◌}
use Rattle.geo_core.specs.declared.limits.TheConstants.{PLANE_EDGE}
use Rattle.geo_core.specs.declared.squares.Square.{Square}
use Rattle.geo_core.specs.Areas.{IsSmall}
use Rattle.run_plane.specs.declared.runs.Run.{Run}
use Rattle.run_plane.specs.declared.rows.Row.{Row}

-- The number at x in a row: that of the run that has x, and 0 where there is none.
abbrev pub value_at : List Run → ℤ → ℕ
value_at [] x = 0
value_at (run ∷ runs) x = if int_le run.xlo x && int_lt x run.xhi then run.value else value_at runs x

-- The runs at the height y: those of the highest row that begins at y or below, and `under` where there is none.
abbrev pub runs_from : List Run → List Row → ℤ → List Run
runs_from under [] y = under
runs_from under (row ∷ rows) y = if int_le row.ylo y then runs_from row.runs rows y else under

-- The number at a square.
abbrev pub number_at : List Row → Square → ℕ
number_at rows square = value_at (runs_from [] rows square.y) square.x

-- the lower edge of planes: all bounds of runs and heights of rows are above this
abbrev pub edge : ℤ
edge = neg_ℤ PLANE_EDGE

-- The run has squares, begins at low or later, and has a number other than 0.
pub record IsRunFrom (low : ℤ) (run : Run) : Type 0 where
  pub from : low ≤ℤ run.xlo
  pub long : run.xlo <ℤ run.xhi
  pub left : IsSmall run.xlo
  pub right : IsSmall run.xhi
  pub material : run.value ≢ 0

-- Runs from left to right that lie apart.
abbrev pub AreRuns : ℤ → List Run → Type 0
AreRuns low [] = Unit {0}
AreRuns low (run ∷ runs) = IsRunFrom low run × AreRuns run.xhi runs

-- The row begins above low, and its runs are in order.
pub record IsRowAbove (low : ℤ) (row : Row) : Type 0 where
  pub above : low <ℤ row.ylo
  pub near : IsSmall row.ylo
  pub runs : AreRuns edge row.runs

-- Rows from the lowest up, each of which begins above the one before.
abbrev pub AreRising : ℤ → List Row → Type 0
AreRising low [] = Unit {0}
AreRising low (row ∷ rows) = IsRowAbove low row × AreRising row.ylo rows

-- The runs of the highest row, and `under` where there is none.
abbrev pub top_runs : List Run → List Row → List Run
top_runs under [] = under
top_runs under (row ∷ rows) = top_runs row.runs rows

-- The rows of a plane: the highest has no number other than 0.
pub record AreRows (rows : List Row) : Type 0 where
  pub rising : AreRising edge rows
  pub ended : (x : ℤ) → value_at (top_runs [] rows) x ≡ 0
