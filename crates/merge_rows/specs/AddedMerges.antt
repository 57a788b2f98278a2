-- Merges that are added to rows.
use Rattle.std.specs.Prelude.{◌≡◌, ◌+◌, List, [], ◌∷◌, ◌++◌}
use Rattle.ext_model.specs.declared.records.MergeRec.{MergeRec}
use Rattle.ext_model.specs.declared.arrays.MergeRow.{MergeRow}
use Rattle.ext_model.specs.Rows.{AreRowsOf, GoesOn}

-- the merge as a row of its own
abbrev pub row_of : MergeRec → MergeRow
row_of merge = record { first = merge.first; second = merge.second; count = 1; cap = merge.cap; measures = merge.measures }

-- the row with one merge more
abbrev pub longer : MergeRow → MergeRow
longer row = record { first = row.first; second = row.second; count = row.count + 1; cap = row.cap; measures = row.measures }

-- The merge goes on with the last of the rows.
pub record GoesOnWithLast (rows : List MergeRow) (merge : MergeRec) : Type 0 where
  pub front : List MergeRow
  pub last : MergeRow
  pub rows_are : rows ≡ front ++ last ∷ []
  pub on : GoesOn last (row_of merge)

-- The new rows are the old ones, the last of them with one merge more.
pub record IsLastLonger (old new : List MergeRow) : Type 0 where
  pub is : (front : List MergeRow) (last : MergeRow) → old ≡ front ++ last ∷ [] → new ≡ front ++ longer last ∷ []

-- The new rows are those of the merges of the old ones and of these behind them.
pub record AddsToRows (added : List MergeRec) (old new : List MergeRow) : Type 0 where
  pub are : (merges : List MergeRec) → AreRowsOf merges old → AreRowsOf (merges ++ added) new
